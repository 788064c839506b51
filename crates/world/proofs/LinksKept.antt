-- A link comes, is another one, or goes.
use Rattle.std.proofs.Common.{◌≡◌, ℕ, ℤ, pos, List, [], Option, Some, None, IfSome, refl, sym, ◌∙◌, ap, subst}
use Rattle.std.specs.Ordering.{nat_cmp, int_cmp}
use Rattle.std.specs.Cmp.{nat_cmp_total}
use Rattle.std.specs.FinMap.{nat_cmp-IsAntisymmetric}
use Rattle.spec_world.specs.World.{Link}
use Rattle.world.specs.LinkTable.{IsKeyed, by_person, AreLinks}
use Rattle.world.specs.Numbered.{numbered, signed_key, unsigned_key}
use Rattle.world.specs.Picked.{changed}
use Rattle.world.proofs.Maps.{with_positive, without_positive}
use Rattle.world.proofs.Picked.{all_changed}
use Rattle.world.proofs.Walks.{key_comes_back}

-- what the table then is
pub link_put : (es new : List (ℕ × Link)) (k : ℕ) (l : Option Link) → new ≡ changed nat_cmp k l es → numbered new ≡ changed int_cmp (pos k) l (numbered es)
link_put es new k None e = ap numbered e ∙ sym (without_positive es k)
link_put es new k (Some l) e = ap numbered e ∙ sym (with_positive es k l)

pub links_kept : (es new : List (ℕ × Link)) (ds after : List (ℕ × ℕ)) (k : ℕ) (l : Option Link) → IfSome l (λ x. IsKeyed x.person) → AreLinks es ds
    → new ≡ changed nat_cmp k l es → after ≡ by_person (changed nat_cmp k l es) → AreLinks new after
links_kept es new ds after k l own h new_is after_is =
    let kept : AreLinks (changed nat_cmp k l es) (by_person (changed nat_cmp k l es)) =
    record { keyed = all_changed nat_cmp_total nat_cmp-IsAntisymmetric (λ e. IsKeyed (e.1).person) k l es own h.keyed; persons = refl } in
    subst (λ (x : List (ℕ × Link) × List (ℕ × ℕ)). AreLinks x.0 x.1) (λ i. (sym new_is i, sym after_is i)) kept

pub no_links : AreLinks [] []
no_links = record { keyed = tt; persons = refl }

-- ---- the key of an integer

pub key_is : (i : ℤ) (k : ℕ) → signed_key k ≡ i → k ≡ unsigned_key i
key_is i k is = sym (key_comes_back k) ∙ ap unsigned_key is

pub is_keyed : (i : ℤ) (k : ℕ) → signed_key k ≡ i → IsKeyed i
is_keyed i k is = ap signed_key (sym (key_is i k is)) ∙ is
