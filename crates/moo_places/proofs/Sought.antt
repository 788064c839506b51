-- To seek along an outline is to find in the layout.
use Rattle.std.proofs.Common.{◌≡◌, ℕ, zero, suc, ◌+◌, Bool, true, false, List, [], ◌∷◌, ◌++◌, Option, Some, None, map, length, refl, ap, sym, ◌∙◌, arith, append_assoc}
use Rattle.std.proofs.lemmas.List.{append-nil, map-append, length-map}
use Rattle.spec_program.specs.Tree.{Program}
use Rattle.spec_program.specs.Construct.{of_program}
use Rattle.moo_code.specs.Layout.{Layout, stop, own, inner, gap, Link, Reception, straight, received, front, reception_size, size, outermost, layout, whole_layout}
use Rattle.moo_code.specs.Paths.{below, past, in_or_past, find}
use Rattle.moo_program.specs.Drafting.{Draught, own_of, part_of, close_of, gap_of, count}
use Rattle.moo_program.specs.Assembling.{draft_of}
use Rattle.moo_program.proofs.Assembled.{items_in, items_over, items_count}
use Rattle.moo_program.specs.Outline.{receives, step_of, outline_of}
use Rattle.moo_program.specs.declared.outline.Step.{Step}
use Rattle.moo_program.specs.declared.outline.Step.TheVariants.{Own, Part, Close, Gap}
use Rattle.moo_places.specs.Seeking.{one_if, behind, seek}

abbrev pub steps_in : Layout → List Step
steps_in l = map step_of (items_in l)

-- the number of the part after a layout's own
abbrev pub parts_to : ℕ → Layout → ℕ
parts_to n stop = n
parts_to n (own op ns l) = parts_to n l
parts_to n (inner k a l) = parts_to (suc n) l
parts_to n (gap l) = parts_to (suc n) l

-- ---- offsets

past_none : (a b o : ℕ) → past a o ≡ None → past (a + b) o ≡ None
past_none zero b o e = absurd (cc)
past_none (suc a) b zero e = let d : suc a + b ≡ suc (a + b) = omega arith in ap (λ n. past n zero) d
past_none (suc a) b (suc o) e = let d : suc a + b ≡ suc (a + b) = omega arith in ap (λ n. past n (suc o)) d ∙ past_none a b o e

past_some : (a b o i : ℕ) → past a o ≡ Some i → past (a + b) o ≡ past b i
past_some zero b o i e =
    let d : 0 + b ≡ b = omega arith in
    let h : o ≡ i = cc in
    ap (λ n. past n o) d ∙ ap (past b) h
past_some (suc a) b zero i e = absurd (cc)
past_some (suc a) b (suc o) i e = let d : suc a + b ≡ suc (a + b) = omega arith in ap (λ n. past n (suc o)) d ∙ past_some a b o i e

-- ---- steps that are passed over

passed : (xs ss : List Step) (n o : ℕ) → seek (xs ++ ss) (suc (length xs)) n o ≡ seek ss (suc zero) n o
passed [] ss n o = refl
passed (x ∷ xs) ss n o = passed xs ss n o

pub size_of_reception : (r : Reception) → reception_size r ≡ one_if (receives r)
size_of_reception straight = refl
size_of_reception (received w n u) = refl

pub steps_count : (a : Layout) → length (steps_in a) ≡ count a
steps_count a = length-map (items_in a) step_of ∙ items_count a

behind_part : (a : Layout) (r : Bool) (ss : List Step) (n o : ℕ)
    → seek (steps_in a ++ Close r ∷ ss) (suc (count a)) n o ≡ in_or_past (past (one_if r) o) (Some []) (λ m. seek ss zero (suc n) m)
behind_part a r ss n o = ap (λ c. seek (steps_in a ++ Close r ∷ ss) (suc c) n o) (sym (steps_count a)) ∙ passed (steps_in a) (Close r ∷ ss) n o

pub steps_of_inner : (k : Link) (a l : Layout) (ss : List Step)
    → steps_in (inner k a l) ++ ss ≡ Part k.opens (count a) (size a) ∷ (steps_in a ++ Close (receives k.reception) ∷ (steps_in l ++ ss))
steps_of_inner k a l ss =
    ap (λ xs. Part k.opens (count a) (size a) ∷ (xs ++ ss)) (map-append step_of (items_in a) (close_of k.reception k.caught ∷ items_in l))
    ∙ ap (λ xs. Part k.opens (count a) (size a) ∷ xs) (append_assoc (steps_in a) (Close (receives k.reception) ∷ steps_in l) ss)

-- ---- the whole

abbrev Found : Layout → List Step → ℕ → ℕ → Type 0
Found l ss n o = seek (steps_in l ++ ss) zero n o ≡ in_or_past (past (size l) o) (find n l o) (λ m. seek ss zero (parts_to n l) m)

abbrev after_part : Link → Layout → ℕ → ℕ → Option (List ℕ)
after_part k l n j = in_or_past (past (reception_size k.reception) j) (Some []) (λ m. find (suc n) l m)

-- a layout that is found whatever the offset
abbrev AllFound : Layout → List Step → ℕ → Type 0
AllFound l ss n = (o : ℕ) → Found l ss n o

-- what comes after a part
abbrev more : Layout → List Step → ℕ → ℕ → Option (List ℕ)
more l ss n m = seek ss zero (parts_to (suc n) l) m

at_reception : (k : Link) (l : Layout) (ss : List Step) (n j : ℕ) (r : Option ℕ) → past (reception_size k.reception) j ≡ r → AllFound l ss (suc n)
    → in_or_past r (Some []) (λ m. seek (steps_in l ++ ss) zero (suc n) m)
    ≡ in_or_past (past (reception_size k.reception + size l) j) (in_or_past r (Some []) (λ m. find (suc n) l m)) (more l ss n)
at_reception k l ss n j None e f = ap (λ x. in_or_past x (Some []) (more l ss n)) (sym (past_none (reception_size k.reception) (size l) j e))
at_reception k l ss n j (Some m) e f =
    f m ∙ ap (λ x. in_or_past x (find (suc n) l m) (more l ss n)) (sym (past_some (reception_size k.reception) (size l) j m e))

abbrev inside : Link → Layout → Layout → List Step → List Step
inside k a l ss = steps_in a ++ Close (receives k.reception) ∷ (steps_in l ++ ss)

at_part : (k : Link) (a l : Layout) (ss : List Step) (n i : ℕ) (r : Option ℕ) → past (size a) i ≡ r → AllFound a (Close (receives k.reception) ∷ (steps_in l ++ ss)) 1 → AllFound l ss (suc n)
    → in_or_past r (below n (seek (inside k a l ss) zero 1 i)) (λ j. seek (inside k a l ss) (suc (count a)) n j)
    ≡ in_or_past (past (size a + (reception_size k.reception + size l)) i) (in_or_past r (below n (find 1 a i)) (λ j. after_part k l n j)) (more l ss n)
at_part k a l ss n i None e g f =
    ap (below n)
    (g i ∙ ap (λ x. in_or_past x (find 1 a i) (λ m. seek (Close (receives k.reception) ∷ (steps_in l ++ ss)) zero (parts_to 1 a) m)) e)
    ∙ ap (λ x. in_or_past x (below n (find 1 a i)) (more l ss n)) (sym (past_none (size a) (reception_size k.reception + size l) i e))
at_part k a l ss n i (Some j) e g f =
    behind_part a (receives k.reception) (steps_in l ++ ss) n j
    ∙ ap (λ z. in_or_past (past z j) (Some []) (λ m. seek (steps_in l ++ ss) zero (suc n) m)) (sym (size_of_reception k.reception))
    ∙ at_reception k l ss n j (past (reception_size k.reception) j) refl f
    ∙ ap (λ x. in_or_past x (after_part k l n j) (more l ss n)) (sym (past_some (size a) (reception_size k.reception + size l) i j e))

at_front : (k : Link) (a l : Layout) (ss : List Step) (n o : ℕ) (r : Option ℕ) → past (front k) o ≡ r → AllFound a (Close (receives k.reception) ∷ (steps_in l ++ ss)) 1 → AllFound l ss (suc n)
    → in_or_past r (Some (n ∷ [])) (λ i. in_or_past (past (size a) i) (below n (seek (inside k a l ss) zero 1 i)) (λ j. seek (inside k a l ss) (suc (count a)) n j))
    ≡ in_or_past (past (front k + (size a + (reception_size k.reception + size l))) o)
    (in_or_past r (Some (n ∷ [])) (λ i. in_or_past (past (size a) i) (below n (find 1 a i)) (λ j. after_part k l n j))) (more l ss n)
at_front k a l ss n o None e g f =
    ap (λ x. in_or_past x (Some (n ∷ [])) (more l ss n)) (sym (past_none (front k) (size a + (reception_size k.reception + size l)) o e))
at_front k a l ss n o (Some i) e g f =
    at_part k a l ss n i (past (size a) i) refl g f
    ∙ ap (λ x. in_or_past x (in_or_past (past (size a) i) (below n (find 1 a i)) (λ j. after_part k l n j)) (more l ss n))
    (sym (past_some (front k) (size a + (reception_size k.reception + size l)) o i e))

pub found : (l : Layout) (ss : List Step) (n o : ℕ) → Found l ss n o
found stop ss n o = refl
found (own op ns l) ss n zero = refl
found (own op ns l) ss n (suc o) = found l ss n o
found (gap l) ss n o = found l ss (suc n) o
found (inner k a l) ss n o =
    ap (λ xs. seek xs zero n o) (steps_of_inner k a l ss)
    ∙ at_front k a l ss n o (past (front k) o) refl (λ i. found a (Close (receives k.reception) ∷ (steps_in l ++ ss)) 1 i) (λ m. found l ss (suc n) m)

-- ---- behind all there is nothing

abbrev NothingBehind : Layout → ℕ → Type 0
NothingBehind l n = (o m : ℕ) → past (size l) o ≡ Some m → find n l o ≡ None

none_is_some : {A : Type 0} (o : Option ℕ) (m : ℕ) → o ≡ None → o ≡ Some m → A
none_is_some o m e h = absurd (cc)

nothing_received : (k : Link) (l : Layout) (n j m : ℕ) (r : Option ℕ) → past (reception_size k.reception) j ≡ r → past (reception_size k.reception + size l) j ≡ Some m
    → NothingBehind l (suc n) → in_or_past r (Some []) (λ m. find (suc n) l m) ≡ None
nothing_received k l n j m None e h f = none_is_some _ m (past_none (reception_size k.reception) (size l) j e) h
nothing_received k l n j m (Some i) e h f = f i m (sym (past_some (reception_size k.reception) (size l) j i e) ∙ h)

nothing_in_part : (k : Link) (a l : Layout) (n i m : ℕ) (r : Option ℕ) → past (size a) i ≡ r → past (size a + (reception_size k.reception + size l)) i ≡ Some m
    → NothingBehind l (suc n) → in_or_past r (below n (find 1 a i)) (λ j. after_part k l n j) ≡ None
nothing_in_part k a l n i m None e h f = none_is_some _ m (past_none (size a) (reception_size k.reception + size l) i e) h
nothing_in_part k a l n i m (Some j) e h f =
    nothing_received k l n j m (past (reception_size k.reception) j) refl (sym (past_some (size a) (reception_size k.reception + size l) i j e) ∙ h) f

nothing_at_front : (k : Link) (a l : Layout) (n o m : ℕ) (r : Option ℕ) → past (front k) o ≡ r → past (front k + (size a + (reception_size k.reception + size l))) o ≡ Some m
    → NothingBehind l (suc n) → in_or_past r (Some (n ∷ [])) (λ i. in_or_past (past (size a) i) (below n (find 1 a i)) (λ j. after_part k l n j)) ≡ None
nothing_at_front k a l n o m None e h f = none_is_some _ m (past_none (front k) (size a + (reception_size k.reception + size l)) o e) h
nothing_at_front k a l n o m (Some i) e h f =
    nothing_in_part k a l n i m (past (size a) i) refl (sym (past_some (front k) (size a + (reception_size k.reception + size l)) o i e) ∙ h) f

nothing_behind : (l : Layout) (n o m : ℕ) → past (size l) o ≡ Some m → find n l o ≡ None
nothing_behind stop n o m e = refl
nothing_behind (own op ns l) n zero m e = absurd (cc)
nothing_behind (own op ns l) n (suc o) m e = nothing_behind l n o m e
nothing_behind (gap l) n o m e = nothing_behind l (suc n) o m e
nothing_behind (inner k a l) n o m e = nothing_at_front k a l n o m (past (front k) o) refl e (λ o m h. nothing_behind l (suc n) o m h)

pub outline_is : (p : Program) → outline_of p ≡ steps_in (whole_layout p) ++ []
outline_is p = ap (map step_of) (items_over (whole_layout p) ([], 0) ∙ append-nil (items_in (whole_layout p))) ∙ sym (append-nil (steps_in (whole_layout p)))

pub is_found : (p : Program) (o : ℕ) → seek (outline_of p) zero 1 o ≡ find 1 (layout outermost (of_program p)) o
is_found p o = ap (λ ss. seek ss zero 1 o) (outline_is p) ∙ found (whole_layout p) [] 1 o ∙ within (past (size (whole_layout p)) o) refl
  where
    within : (r : Option ℕ) → past (size (whole_layout p)) o ≡ r → in_or_past r (find 1 (whole_layout p) o) (λ m. seek [] zero (parts_to 1 (whole_layout p)) m) ≡ find 1 (whole_layout p) o
    within None e = refl
    within (Some m) e = sym (nothing_behind (whole_layout p) 1 o m e)
