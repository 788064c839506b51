-- What is left of a text behind some of its lines.
use Rattle.std.proofs.Common.{◌≡◌, ℕ, zero, suc, IsTrue, get_or, ◌+◌, ◌-◌, ◌≤◌, ◌<◌, ◌^◌, List, [], ◌∷◌, ◌++◌, length, take, drop, refl, ap, sym, ◌∙◌, arith, append_assoc, length-append}
use Rattle.std.proofs.Math.Seq.{take-append_seam, drop-cons}
use Rattle.spec_value.proofs.Entries.{first_holds, second_holds}
use Rattle.spec_checkpoint.specs.Lines.{is_line, are_lines}
use Rattle.spec_value.specs.Datum.{Text}
use Rattle.spec_world.specs.Checkpoint.{with_line_ends}

pub ends_append : (ts us : List Text) → with_line_ends (ts ++ us) ≡ with_line_ends ts ++ with_line_ends us
ends_append [] us = refl
ends_append (t ∷ ts) us = ap (λ r. t ++ (10 ∷ r)) (ends_append ts us) ∙ sym (append_assoc t (10 ∷ with_line_ends ts) (with_line_ends us))

-- each line has a character at least
pub as_many : (ts : List Text) → length ts ≤ length (with_line_ends ts)
as_many [] = omega arith
as_many (t ∷ ts) = let rest = as_many ts in let room = length-append t (10 ∷ with_line_ends ts) in omega arith

pub rest_small : (t : Text) (ts : List Text) → length (with_line_ends (t ∷ ts)) < 2 ^ 63 → (length ts < 2 ^ 63) × (length (with_line_ends ts) < 2 ^ 63)
rest_small t ts h = let rest = as_many ts in let room = length-append t (10 ∷ with_line_ends ts) in (omega arith, omega arith)

pub front_of : (ts us : List Text) (text left : Text) (n : ℕ) → text ≡ with_line_ends (ts ++ us) → left ≡ with_line_ends us → n ≡ length text - length left → take n text ≡ with_line_ends ts
front_of ts us text left n e l is =
    let whole : text ≡ with_line_ends ts ++ with_line_ends us = e ∙ ends_append ts us in
    let room : length text ≡ length (with_line_ends ts) + length (with_line_ends us) = ap length whole ∙ length-append (with_line_ends ts) (with_line_ends us) in
    let rest : length left ≡ length (with_line_ends us) = ap length l in
    let at : n ≡ length (with_line_ends ts) = omega arith in
    (λ i. take (at i) (whole i)) ∙ take-append_seam (with_line_ends ts) (with_line_ends us)

-- ---- line by line

pub next_of : (ts rest : List Text) (i : ℕ) → i < length ts → IsTrue (are_lines ts) → (t : Text) × IsTrue (is_line t) × (drop i ts ++ rest ≡ t ∷ (drop (suc i) ts ++ rest))
next_of [] rest i l h = absurd (omega arith)
next_of (t ∷ ts) rest zero l h = (t, first_holds (is_line t) (are_lines ts) h, refl)
next_of (t ∷ ts) rest (suc i) l h = next_of ts rest i (omega arith) (second_holds (is_line t) (are_lines ts) h)

pub made_on : (ls : List Text) (i : ℕ) (d text : Text) → i < length ls → text ≡ with_line_ends (drop i ls) → text ≡ get_or ls i d ++ 10 ∷ with_line_ends (drop (suc i) ls)
made_on ls i d text l e = e ∙ ap with_line_ends (drop-cons ls i d l)
