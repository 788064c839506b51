use Rattle.std.proofs.lemmas.List.{take-append-drop}
use Rattle.telnet_line.proofs.Characters.{up_to}
use Rattle.telnet_line.proofs.draft.Draft.take_some.Goals as goal

pub returns-clause-read : goal.returns-clause-read
returns-clause-read c =
    up_to _ _ _ _ _ (rw (c.split_at-2.ensures.front, c.split_at-2.ensures.back) (take-append-drop _ _)) c.in_ok-take_characters.ensures
