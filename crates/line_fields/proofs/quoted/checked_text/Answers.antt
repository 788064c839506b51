use Rattle.std.proofs.lemmas.Str.{IsUtf8-from_ascii}
use Rattle.moo_value.proofs.Characters.{all_ascii}
use Rattle.line_fields.proofs.quoted.checked_text.Goals as goal

pub returns-in_default-clause-finds : goal.returns-in_default-clause-finds
returns-in_default-clause-finds c h = absurd (c.in_default.ensures.cases.0 (IsUtf8-from_ascii c.args.characters.now (all_ascii c.args.characters.now h)))
