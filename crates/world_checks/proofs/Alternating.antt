-- The order of what waits, seen from the outermost to the innermost.
use Rattle.std.proofs.Common.{◌≡◌, ◌∙◌, ap, refl, ℕ, ◌+◌, ◌<◌, ◌≤◌, Bool, true, false, List, ◌∷◌, length, take, get_or}
use Rattle.moo_code.specs.Machine as code
use Rattle.moo_code.specs.Machine.{verb, native}
use Rattle.moo_task.specs.Frames.{outer_of, outers_of}
use Rattle.moo_task.specs.declared.frame.Outer.{Outer}
use Rattle.world_checks.specs.Waiting.{begins_with_verb, goes_on_after_verb, is_verb}
use Rattle.world_checks.proofs.Each.{last_on, all_on}

after_verb : (o : code.Outer) (ks : List code.Outer) → is_verb o ≡ true → (goes_on_after_verb ks ≡ begins_with_verb (o ∷ ks)) × (goes_on_after_verb ks ≡ goes_on_after_verb (o ∷ ks))
after_verb (verb k) ks h = (refl, refl)
after_verb (native n) ks h = cc

after_native : (o : code.Outer) (ks : List code.Outer) → is_verb o ≡ false → (false ≡ begins_with_verb (o ∷ ks)) × (begins_with_verb ks ≡ goes_on_after_verb (o ∷ ks))
after_native (verb k) ks h = cc
after_native (native n) ks h = (refl, refl)

pub one_verb_more : (os : List Outer) (n : ℕ) (o : Outer) (goes_on : Bool) → n < length os → o ≡ get_or os n o → is_verb (outer_of o) ≡ true
    → goes_on ≡ goes_on_after_verb (outers_of (take n os))
    → (goes_on ≡ begins_with_verb (outers_of (take (n + 1) os))) × (goes_on ≡ goes_on_after_verb (outers_of (take (n + 1) os)))
one_verb_more os n o goes_on small is h before =
    let both = after_verb (outer_of o) (outers_of (take n os)) h in
    let whole = last_on os n o small is in (
      before ∙ both.0 ∙ ap begins_with_verb whole,
      before ∙ both.1 ∙ ap goes_on_after_verb whole,
    )

pub one_native_more : (os : List Outer) (n : ℕ) (o : Outer) (begins : Bool) → n < length os → o ≡ get_or os n o → is_verb (outer_of o) ≡ false
    → begins ≡ begins_with_verb (outers_of (take n os))
    → (false ≡ begins_with_verb (outers_of (take (n + 1) os))) × (begins ≡ goes_on_after_verb (outers_of (take (n + 1) os)))
one_native_more os n o begins small is h before =
    let both = after_native (outer_of o) (outers_of (take n os)) h in
    let whole = last_on os n o small is in (
      both.0 ∙ ap begins_with_verb whole,
      before ∙ both.1 ∙ ap goes_on_after_verb whole,
    )

pub all_seen : (os : List Outer) (n : ℕ) (begins : Bool) → length os ≤ n → begins ≡ begins_with_verb (outers_of (take n os)) → begins ≡ begins_with_verb (outers_of os)
all_seen os n begins all h = h ∙ ap begins_with_verb (all_on os n all)
