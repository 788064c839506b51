-- What the records of this crate mean.
use Rattle.std.specs.Prelude.{◌++◌, drop, codes}
use Rattle.spec_value.specs.Datum.{Text}
use Rattle.spec_world.specs.CommandLines as meant
use Rattle.player_commands.specs.declared.command_lines.parts.Front.{Front}
use Rattle.player_commands.specs.declared.command_lines.parts.Front.TheVariants.{Say, Emote, Eval, Plain}
use Rattle.player_commands.specs.declared.command_lines.parts.Parts.{Parts}

-- a line whose sign is spelled out
abbrev pub with_front : Front → Text → Text
with_front Say t = codes "say " ++ drop 1 t
with_front Emote t = codes "emote " ++ drop 1 t
with_front Eval t = codes "eval " ++ drop 1 t
with_front Plain t = t

abbrev pub is_sign : Front → Type 0
is_sign Plain = ⊥
is_sign f = Unit {0}

abbrev pub parts_of : Parts → meant.Parts
parts_of p = record {
  verb = p.verb;
  args = p.args.items;
  argstr = p.argstr;
  preposition = p.preposition;
  dobjstr = p.dobjstr;
  prepstr = p.prepstr;
  iobjstr = p.iobjstr;
}
