-- Digits, one more at a time.
use Rattle.std.proofs.Common.{◌≡◌, ℕ, ◌+◌, ◌-◌, ◌*◌, ◌<◌, ◌≤◌, Bool, true, false, [], ◌∷◌, length, get_or, drop, drop-cons, add-one, Some, None, refl, sym, ap, ◌∙◌, arith, if◌then◌else◌}
use Rattle.std.specs.Prelude.{option_map}
use Rattle.spec_value.specs.Datum.{Text}
use Rattle.spec_world.specs.Naming.{is_digit, number_after, digits_number}
use Rattle.player_commands.specs.Numbers.{capped}

pub digits_of : (t : Text) → 0 < length t → digits_number t ≡ number_after 0 t
digits_of [] some = absurd (omega arith)
digits_of (c ∷ t) some = refl

capped_on : (m n d : ℕ) → capped m ≡ capped n → capped (m * 10 + d) ≡ capped (n * 10 + d)
capped_on m n d e = omega (arith, e)

same_by : (b : Bool) (t : Text) (m n : ℕ) → option_map capped (number_after m t) ≡ option_map capped (number_after n t)
    → option_map capped (if b then number_after m t else None) ≡ option_map capped (if b then number_after n t else None)
same_by true t m n e = e
same_by false t m n e = refl

-- numbers beyond all objects' stay so
same_beyond : (t : Text) (m n : ℕ) → capped m ≡ capped n → option_map capped (number_after m t) ≡ option_map capped (number_after n t)
same_beyond [] m n e = ap Some e
same_beyond (c ∷ t) m n e =
    same_by (is_digit c) t (m * 10 + (c - 48)) (n * 10 + (c - 48)) (same_beyond t (m * 10 + (c - 48)) (n * 10 + (c - 48)) (capped_on m n (c - 48) e))

pub no_digit : (c n : ℕ) (t : Text) → is_digit c ≡ false → None ≡ option_map capped (number_after n (c ∷ t))
no_digit c n t refused = sym (ap (λ b. option_map capped (if b then number_after (n * 10 + (c - 48)) t else None)) refused)

next_digit : (c n k : ℕ) (t : Text) → is_digit c ≡ true → k ≡ capped (n * 10 + (c - 48)) → option_map capped (number_after k t) ≡ option_map capped (number_after n (c ∷ t))
next_digit c n k t allowed e =
    same_beyond t k (n * 10 + (c - 48)) (omega (arith, e)) ∙ sym (ap (λ b. option_map capped (if b then number_after (n * 10 + (c - 48)) t else None)) allowed)

pub next_at : (t : Text) (i n k : ℕ) → i < length t → is_digit (get_or t i 0) ≡ true → k ≡ capped (n * 10 + (get_or t i 0 - 48))
    → option_map capped (number_after k (drop (i + 1) t)) ≡ option_map capped (number_after n (drop i t))
next_at t i n k inside allowed e =
    let split : drop i t ≡ get_or t i 0 ∷ drop (i + 1) t = rw (add-one, drop-cons t i 0) refl in
    next_digit (get_or t i 0) n k (drop (i + 1) t) allowed e ∙ ap (λ u. option_map capped (number_after n u)) (sym split)

pub last_digit : (n : ℕ) → n ≤ 4294967296 → Some n ≡ option_map capped (number_after n [])
last_digit n small = ap Some (omega arith)
