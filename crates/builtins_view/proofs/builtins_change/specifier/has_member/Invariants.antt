use Rattle.std.proofs.Common.{◌≡◌, drop, map}
use Rattle.builtins_view.specs.Specifiers.{has_member}
use Rattle.builtins_view.proofs.builtins_change.specifier.has_member.Given as goal

abbrev pub invariant-loop-member : goal.invariant-loop-member
invariant-loop-member l =
    has_member l.text (map (λ m. m.now) (drop l.member-index l.members)) ≡ has_member l.text (map (λ m. m.now) l.members)
