-- Slots whose names are those that the parent has and those that are defined.
use Rattle.std.proofs.Common.{◌≡◌, ℤ, List, [], ◌++◌, map, refl, sym, subst, IsTrue, not, ◌&&◌, Option, Some, None, is_none, is_some}
use Rattle.std.specs.List.{list_all}
use Rattle.spec_value.specs.Datum.{Text, Datum, fold_case}
use Rattle.spec_value.specs.Table.{Named}
use Rattle.spec_world.specs.World.{World, Object, Slot}
use Rattle.spec_world.specs.WellFormed.{has_name, names_once}
use Rattle.spec_world.specs.Locally.{inherited_names, slots_follow}
use Rattle.world_checks.specs.Merge.{IsMerge, InOrder}
use Rattle.world_checks.proofs.Merged.{merge_follows, follows_merge}

pub follows : (w : World) (o : ℤ) (x : Object) (names : List Text) (others slots : Named Slot) → names ≡ x.defines → slots ≡ x.slots
    → IsTrue (names_once (map (λ e. e.0) slots)) → map (λ e. e.0) others ≡ inherited_names w x
    → IsMerge (map fold_case names) (map (λ e. e.0) others) (map (λ e. e.0) slots) → IsTrue (slots_follow w o x)
follows w o x names others slots defined as_slots once_here inherited merge =
    merge_follows (map fold_case x.defines) (inherited_names w x) (map (λ e. e.0) x.slots) whole
    (subst (λ (es : Named Slot). IsTrue (names_once (map (λ e. e.0) es))) as_slots once_here)
  where
    first : IsMerge (map fold_case x.defines) (map (λ e. e.0) others) (map (λ e. e.0) slots)
    first = subst (λ (ts : List Text). IsMerge (map fold_case ts) (map (λ e. e.0) others) (map (λ e. e.0) slots)) defined merge

    second : IsMerge (map fold_case x.defines) (inherited_names w x) (map (λ e. e.0) slots)
    second = subst (λ (ts : List Text). IsMerge (map fold_case x.defines) ts (map (λ e. e.0) slots)) inherited first

    whole : IsMerge (map fold_case x.defines) (inherited_names w x) (map (λ e. e.0) x.slots)
    whole = subst (λ (es : Named Slot). IsMerge (map fold_case x.defines) (inherited_names w x) (map (λ e. e.0) es)) as_slots second

-- and the other way round
abbrev Follows : List Text → List Text → List Text → Type 0
Follows ts us vs = IsTrue ((names_once ts && list_all (λ t. not (has_name us t)) ts) && (list_all (has_name (ts ++ us)) vs && list_all (has_name vs) (ts ++ us)))

pub merges : (w : World) (o : ℤ) (x : Object) (names : List Text) (others slots : Named Slot) → names ≡ x.defines → slots ≡ x.slots
    → IsTrue (names_once (map (λ e. e.0) slots)) → IsTrue (names_once (map (λ e. e.0) others)) → map (λ e. e.0) others ≡ inherited_names w x
    → IsTrue (slots_follow w o x) → IsMerge (map fold_case names) (map (λ e. e.0) others) (map (λ e. e.0) slots)
merges w o x names others slots defined are once_here once_there inherited h =
    follows_merge (map fold_case names) (map (λ e. e.0) others) (map (λ e. e.0) slots) third once_there once_here
  where
    first : Follows (map fold_case names) (inherited_names w x) (map (λ e. e.0) x.slots)
    first = subst (λ (ts : List Text). Follows (map fold_case ts) (inherited_names w x) (map (λ e. e.0) x.slots)) (sym defined) h

    second : Follows (map fold_case names) (map (λ e. e.0) others) (map (λ e. e.0) x.slots)
    second = subst (λ (us : List Text). Follows (map fold_case names) us (map (λ e. e.0) x.slots)) (sym inherited) first

    third : Follows (map fold_case names) (map (λ e. e.0) others) (map (λ e. e.0) slots)
    third = subst (λ (es : Named Slot). Follows (map fold_case names) (map (λ e. e.0) others) (map (λ e. e.0) es)) (sym are) second

-- ---- of a list without slots

pub none_once : (es : Named Slot) → es ≡ [] → IsTrue (names_once (map (λ e. e.0) es))
unfolding names_once
none_once es is = subst (λ (ds : Named Slot). IsTrue (names_once (map (λ e. e.0) ds))) (sym is) refl

pub none_order : (es : Named Slot) → es ≡ [] → InOrder (map (λ e. e.0) es)
none_order es is = subst (λ (ds : Named Slot). InOrder (map (λ e. e.0) ds)) (sym is) (λ i j s t le a b. cc)

pub filled : (o : Option Datum) → not (is_none o) ≡ is_some o
filled None = refl
filled (Some v) = refl
