-- Where `.program object:verb` is cut.
use Rattle.std.proofs.Common.{◌≡◌, ℕ, zero, suc, ◌<◌, List, [], ◌∷◌, length, get_or, take, drop, Some, None, refl, ap, ◌∙◌, arith, if◌then◌else◌}
use Rattle.std.specs.Prelude.{option_map}
use Rattle.std.proofs.lemmas.Bool.{eq-eqb, ne_eqb}
use Rattle.spec_value.specs.Datum.{Text}
use Rattle.spec_world.specs.CommandLines.{cut_at_colon, request_of, program_verb, other_form}

-- ---- the first colon

pub colon_here : (s : Text) (k : ℕ) → k < length s → ((j : ℕ) → j < k → get_or s j 0 ≡ 58 → ⊥) → get_or s k 0 ≡ 58 → cut_at_colon s ≡ Some (take k s, drop (suc k) s)
colon_here [] k h none here = absurd (omega arith)
colon_here (c ∷ s) zero h none here = ap (λ b. if b then Some ([], s) else option_map (λ (r : Text × Text). (c ∷ r.0, r.1)) (cut_at_colon s)) (eq-eqb c 58 here)
colon_here (c ∷ s) (suc k) h none here =
    ap (λ b. if b then Some ([], s) else option_map (λ (r : Text × Text). (c ∷ r.0, r.1)) (cut_at_colon s)) (ne_eqb c 58 (none 0 (omega arith)))
    ∙ ap (option_map (λ (r : Text × Text). (c ∷ r.0, r.1))) (colon_here s k (omega arith) (λ j lt. none (suc j) (omega arith)) here)

pub colon_nowhere : (s : Text) → ((j : ℕ) → j < length s → get_or s j 0 ≡ 58 → ⊥) → cut_at_colon s ≡ None
colon_nowhere [] none = refl
colon_nowhere (c ∷ s) none =
    ap (λ b. if b then Some ([], s) else option_map (λ (r : Text × Text). (c ∷ r.0, r.1)) (cut_at_colon s)) (ne_eqb c 58 (none 0 (omega arith)))
    ∙ ap (option_map (λ (r : Text × Text). (c ∷ r.0, r.1))) (colon_nowhere s (λ j lt. none (suc j) (omega arith)))

-- ---- words behind `.program`

pub cut_there : (t a b : Text) → cut_at_colon t ≡ Some (a, b) → request_of (t ∷ []) ≡ program_verb a b
cut_there t a b e = rw e refl

pub not_cut : (t : Text) → cut_at_colon t ≡ None → request_of (t ∷ []) ≡ other_form
not_cut t e = rw e refl

pub other_count : (ts : List Text) → (length ts ≡ 1 → ⊥) → request_of ts ≡ other_form
other_count [] h = refl
other_count (t ∷ []) h = absurd (h refl)
other_count (t ∷ u ∷ ts) h = refl

pub just_one : (ts : List Text) (t : Text) → length ts ≡ 1 → t ≡ get_or ts 0 t → request_of (t ∷ []) ≡ request_of ts
just_one [] t one is = absurd (omega arith)
just_one (u ∷ []) t one is = ap (λ v. request_of (v ∷ [])) is
just_one (u ∷ v ∷ ts) t one is = absurd (omega arith)
