-- What is kept with the newest one last.
use Rattle.std.proofs.Common.{◌≡◌, ◌-◌, Some, List, [], ◌∷◌, ◌++◌, length, reverse, refl, ap, sym, ◌∙◌, arith}
use Rattle.std.specs.List.{slice_get}
use Rattle.std.proofs.lemmas.List.{reverse-append, reverse-reverse, length-append}
use Rattle.reader_frames.specs.ListView.{first}

pub one_newer : {T : Type 0} (xs ys : List T) (x : T) → ys ≡ xs ++ x ∷ [] → reverse ys ≡ x ∷ reverse xs
one_newer xs ys x h = ap reverse h ∙ reverse-append xs (x ∷ [])

pub none_kept : {T : Type 0} (xs : List T) → length xs ≡ 0 → reverse xs ≡ []
none_kept [] h = refl
none_kept (x ∷ xs) h = absurd (cc)

at_end : {T : Type 0} (xs : List T) (x : T) → slice_get (xs ++ x ∷ []) (length xs) ≡ Some x
at_end [] x = refl
at_end (y ∷ xs) x = at_end xs x

last_of : {T : Type 0} (xs : List T) (x : T) → slice_get (xs ++ x ∷ []) (length (xs ++ x ∷ []) - 1) ≡ Some x
last_of xs x =
    let both = length-append xs (x ∷ []) in
    let count : length (xs ++ x ∷ []) - 1 ≡ length xs = omega (arith, both) in
    ap (slice_get (xs ++ x ∷ [])) count ∙ at_end xs x

first_is : {T : Type 0} (xs : List T) → slice_get (reverse xs) (length (reverse xs) - 1) ≡ first xs
first_is [] = refl
first_is (x ∷ xs) = ap (λ ys. slice_get ys (length ys - 1)) (reverse-append (x ∷ []) xs) ∙ last_of (reverse xs) x

pub newest : {T : Type 0} (xs : List T) → slice_get xs (length xs - 1) ≡ first (reverse xs)
newest xs = ap (λ ys. slice_get ys (length ys - 1)) (sym (reverse-reverse xs)) ∙ first_is (reverse xs)
