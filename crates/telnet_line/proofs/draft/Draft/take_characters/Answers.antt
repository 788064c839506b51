use Rattle.std.proofs.Common.{refl}
use Rattle.telnet_line.proofs.Characters.{characters_draft}
use Rattle.telnet_line.proofs.draft.Draft.take_characters.Goals as goal

pub returns : goal.returns
returns c = characters_draft c.args.characters.now c.args.self.now _ c.requires.nothing c.requires.kept refl c.in_ok-push_all.ensures.ok refl
