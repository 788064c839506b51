use Rattle.std.proofs.lemmas.Str.{IsUtf8-from_ascii}
use Rattle.moo_value.proofs.Characters.{all_ascii}
use Rattle.line_fields.proofs.quoted.plain_text.Goals as goal

pub returns-in-Err : goal.returns-in-Err
returns-in-Err c = absurd (c.in-Err.ensures.cases.0 (IsUtf8-from_ascii c.args.characters.now (all_ascii c.args.characters.now c.requires)))
