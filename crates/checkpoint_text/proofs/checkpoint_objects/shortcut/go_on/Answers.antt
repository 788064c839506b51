use Rattle.std.proofs.Common.{List, All, subst}
use Rattle.std.proofs.lemmas.List.{take_all}
use Rattle.std.proofs.lemmas.List.Elements.{All-more}
use Rattle.checkpoint_text.specs.declared.checkpoint_objects.shortcut.Shortcut.{Shortcut}
use Rattle.checkpoint_text.specs.Shortcuts.{GoesOn}
use Rattle.checkpoint_text.proofs.checkpoint_objects.shortcut.go_on.Goals as goal

pub loop-shortcut-preserved : goal.loop-shortcut-preserved
loop-shortcut-preserved c =
    All-more (λ (e : Shortcut). GoesOn c.args.draft.now c.args.shortcuts.now e.from e.over e.to) c.args.shortcuts.now c.loop-shortcut.shortcut-index _ c.loop-shortcut-test.true
    c.loop-shortcut.invariant (c.goes_on.ensures c.if-not-goes_on.false)

pub returns : goal.returns
returns c h =
    subst (λ (es : List Shortcut). All (λ e. GoesOn c.args.draft.now c.args.shortcuts.now e.from e.over e.to) es)
    (take_all c.loop-shortcut.shortcut-index c.args.shortcuts.now c.loop-shortcut-test.false) c.loop-shortcut.invariant
