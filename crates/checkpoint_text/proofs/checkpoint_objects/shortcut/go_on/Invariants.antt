use Rattle.std.proofs.Common.{All, take}
use Rattle.checkpoint_text.specs.Shortcuts.{GoesOn}
use Rattle.checkpoint_text.proofs.checkpoint_objects.shortcut.go_on.Given as goal

abbrev pub invariant-loop-shortcut : goal.invariant-loop-shortcut
invariant-loop-shortcut l = All (λ e. GoesOn l.draft l.shortcuts e.from e.over e.to) (take l.shortcut-index l.shortcuts)
