-- Where the parts of a layout stand in its code.
use Rattle.std.proofs.Common.{◌≡◌, ℕ, zero, suc, ◌+◌, List, [], ◌∷◌, ◌++◌, length, Bool, true, false, cond, Option, Some, None, refl, sym, ap, ◌∙◌, subst, arith, append_assoc, length-append}
use Rattle.std.specs.Prelude.{slice_get}
use Rattle.std.proofs.lemmas.List.{append-nil}
use Rattle.moo_code.specs.Instruction.{Instruction, open_list, perform, placed}
use Rattle.moo_code.specs.Layout.{Link, Reception, straight, received, Layout, stop, own, inner, gap, front, reception_size, size, rest, reached, entry, link_at, chunk, opening, receiving, assembled, code_from}

pub whole_size : (n : ℕ) (l : Layout) → size l ≡ reached n l + size (rest n l)
whole_size zero l = omega arith
whole_size (suc n) stop = refl
whole_size (suc n) (own op ns l) = let e = whole_size (suc n) l in omega (arith, e)
whole_size (suc n) (inner k a l) = let e = whole_size n l in omega (arith, e)
whole_size (suc n) (gap l) = whole_size n l

pub entry_is : (n : ℕ) (l : Layout) → entry (suc n) l ≡ reached n l + entry (suc zero) (rest n l)
entry_is zero l = omega arith
entry_is (suc n) stop = refl
entry_is (suc n) (own op ns l) = let e = entry_is (suc n) l in omega (arith, e)
entry_is (suc n) (inner k a l) = let e = entry_is n l in omega (arith, e)
entry_is (suc n) (gap l) = entry_is n l

-- the link and the layout of a part, from 0
abbrev pub IsPart : ℕ → Layout → Link → Layout → Type 0
IsPart n l k a = (link_at n l ≡ Some k) × (chunk n l ≡ Some a)

link_or : Link → Option Link → Link
link_or k None = k
link_or k (Some j) = j

pub same_link : (k j : Link) → Some k ≡ Some j → k ≡ j
unfolding link_or
same_link k j e = ap (λ o. link_or k o) e

layout_or : Layout → Option Layout → Layout
layout_or a None = a
layout_or a (Some b) = b

pub same_layout : (a b : Layout) → Some a ≡ Some b → a ≡ b
unfolding layout_or
same_layout a b e = ap (λ o. layout_or a o) e

-- where its value is received
pub part_end : (n : ℕ) (l : Layout) (k : Link) (a : Layout) → IsPart n l k a → reached (suc n) l ≡ entry (suc n) l + (front k + (size a + reception_size k.reception))
part_end n stop k a h = cc
part_end n (own op ns l) k a h = let e = part_end n l k a h in omega (arith, e)
part_end zero (inner j b l) k a h =
    let e : size b ≡ size a = ap size (same_layout b a h.1) in
    let f : front j ≡ front k = ap front (same_link j k h.0) in
    let g : reception_size j.reception ≡ reception_size k.reception = ap (λ (z : Link). reception_size z.reception) (same_link j k h.0) in
    omega (arith, e, f, g)
part_end (suc n) (inner j b l) k a h = let e = part_end n l k a h in omega (arith, e)
part_end zero (gap l) k a h = cc
part_end (suc n) (gap l) k a h = part_end n l k a h

module _ (code : List Instruction) where
  abbrev pub Stood : ℕ → List Instruction → Type 0
  Stood b [] = Unit {0}
  Stood b (i ∷ is) = (slice_get code b ≡ Some i) × Stood (suc b) is

  -- a layout stands in the code from a place on
  abbrev pub Laid : (ℕ → ℕ) → ℕ → Layout → Type 0
  Laid to b stop = Unit {0}
  Laid to b (own op ns l) = (slice_get code b ≡ Some (perform op (placed to ns))) × Laid to (suc b) l
  Laid to b (inner k a l) =
      Stood b (opening k)
      × Laid (λ n. b + front k + entry n a) (b + front k) a × Stood (b + (front k + size a)) (receiving (to 0) k.reception) × Laid to (b + (front k + (size a + reception_size k.reception))) l
  Laid to b (gap l) = Laid to b l

  moved : (to : ℕ → ℕ) (b c : ℕ) (l : Layout) → b ≡ c → Laid to b l → Laid to c l
  moved to b c l e h = subst (λ n. Laid to n l) e h

  pub laid_rest : (to : ℕ → ℕ) (b n : ℕ) (l : Layout) → Laid to b l → Laid to (b + reached n l) (rest n l)
  laid_rest to b zero l h = let e : b ≡ b + 0 = omega arith in moved to b (b + 0) l e h
  laid_rest to b (suc n) stop h = tt
  laid_rest to b (suc n) (own op ns l) h =
      let e : suc b + reached (suc n) l ≡ b + suc (reached (suc n) l) = omega arith in
      moved to _ _ (rest (suc n) l) e (laid_rest to (suc b) (suc n) l h.1)
  laid_rest to b (suc n) (inner k a l) h =
      let c = front k + (size a + reception_size k.reception) in
      let e : b + c + reached n l ≡ b + (front k + (size a + (reception_size k.reception + reached n l))) = omega arith in
      moved to (b + c + reached n l) _ (rest n l) e (laid_rest to (b + c) n l h.3)
  laid_rest to b (suc n) (gap l) h = laid_rest to b n l h

  abbrev pub LaidPart : ℕ → Layout → Type 0
  LaidPart b a = Laid (λ n. b + entry n a) b a

  -- a part: its empty list, its code, and how it is received
  abbrev pub PartLaid : (ℕ → ℕ) → ℕ → Link → Layout → Type 0
  PartLaid to b k a = Stood b (opening k) × LaidPart (b + front k) a × Stood (b + (front k + size a)) (receiving (to 0) k.reception)

  pub laid_part : (to : ℕ → ℕ) (b n : ℕ) (l : Layout) (k : Link) (a : Layout) → Laid to b l → IsPart n l k a → PartLaid to (b + entry (suc n) l) k a
  laid_part to b n stop k a h e = cc
  laid_part to b n (own op ns l) k a h e =
      let m : suc b + entry (suc n) l ≡ b + suc (entry (suc n) l) = omega arith in
      subst (λ c. PartLaid to c k a) m (laid_part to (suc b) n l k a h.1 e)
  laid_part to b zero (inner j c l) k a h e =
      let m : b ≡ b + 0 = omega arith in
      subst (λ x. PartLaid to x k a) m
      (subst (λ x. PartLaid to b x a) (same_link j k e.0) (subst (λ x. PartLaid to b j x) (same_layout c a e.1) (h.0, h.1, h.2)))
  laid_part to b (suc n) (inner j c l) k a h e =
      let d = front j + (size c + reception_size j.reception) in
      let m : b + d + entry (suc n) l ≡ b + (front j + (size c + (reception_size j.reception + entry (suc n) l))) = omega arith in
      subst (λ x. PartLaid to x k a) m (laid_part to (b + d) n l k a h.3 e)
  laid_part to b zero (gap l) k a h e = cc
  laid_part to b (suc n) (gap l) k a h e = laid_part to b n l k a h e

-- ---- the assembled code is laid

at_seam : (pre : List Instruction) (i : Instruction) (post : List Instruction) → slice_get (pre ++ i ∷ post) (length pre) ≡ Some i
at_seam [] i post = refl
at_seam (j ∷ pre) i post = at_seam pre i post

opening_size : (k : Link) → length (opening k) ≡ front k
opening_size k = by k.opens
  where
    by : (b : Bool) → length (cond b (open_list ∷ []) []) ≡ cond b 1 0
    by true = refl
    by false = refl

receiving_size : (end : ℕ) (r : Reception) → length (receiving end r) ≡ reception_size r
receiving_size end straight = refl
receiving_size end (received w n u) = refl

size_is : (to : ℕ → ℕ) (b : ℕ) (l : Layout) → length (assembled to b l) ≡ size l
size_is to b stop = refl
size_is to b (own op ns l) = ap suc (size_is to (suc b) l)
size_is to b (inner k a l) =
    let inside : ℕ → ℕ = λ n. b + front k + entry n a in
    let first = assembled inside (b + front k) a in
    let later = assembled to (b + (front k + (size a + reception_size k.reception))) l in
    let e = size_is inside (b + front k) a in
    let f = size_is to (b + (front k + (size a + reception_size k.reception))) l in
    omega (arith, e, f, opening_size k, receiving_size (to 0) k.reception, length-append (opening k) (first ++ (receiving (to 0) k.reception ++ later)), length-append first (receiving (to 0) k.reception ++ later), length-append (receiving (to 0) k.reception) later)
size_is to b (gap l) = size_is to b l

stood_between : (b : ℕ) (is code pre post : List Instruction) → code ≡ pre ++ (is ++ post) → length pre ≡ b → Stood code b is
stood_between b [] code pre post e n = tt
stood_between b (i ∷ is) code pre post e n = (
  subst (λ c. slice_get c b ≡ Some i) (sym e) (subst (λ m. slice_get (pre ++ (i ∷ (is ++ post))) m ≡ Some i) n (at_seam pre i (is ++ post))),
  let m : length (pre ++ i ∷ []) ≡ suc b = omega (arith, n, length-append pre (i ∷ [])) in
      stood_between (suc b) is code (pre ++ i ∷ []) post (e ∙ sym (append_assoc pre (i ∷ []) (is ++ post))) m,
)

laid_between : (to : ℕ → ℕ) (b : ℕ) (l : Layout) (code pre post : List Instruction) → code ≡ pre ++ (assembled to b l ++ post) → length pre ≡ b → Laid code to b l
laid_between to b stop code pre post e n = tt
laid_between to b (own op ns l) code pre post e n = (
  subst (λ c. slice_get c b ≡ Some (perform op (placed to ns))) (sym e)
      (subst (λ m. slice_get (pre ++ (assembled to b (own op ns l) ++ post)) m ≡ Some (perform op (placed to ns))) n (at_seam pre (perform op (placed to ns)) (assembled to (suc b) l ++ post))),
  let m : length (pre ++ perform op (placed to ns) ∷ []) ≡ suc b = omega (arith, n, length-append pre (perform op (placed to ns) ∷ [])) in
      laid_between to (suc b) l code (pre ++ perform op (placed to ns) ∷ []) post (e ∙ sym (append_assoc pre (perform op (placed to ns) ∷ []) (assembled to (suc b) l ++ post))) m,
)
laid_between to b (inner k a l) code pre post e n =
    let inside : ℕ → ℕ = λ n. b + front k + entry n a in
    let open_ = opening k in
    let first = assembled inside (b + front k) a in
    let got = receiving (to 0) k.reception in
    let c = front k + (size a + reception_size k.reception) in
    let last = assembled to (b + c) l in
    let e1 : code ≡ pre ++ (open_ ++ ((first ++ (got ++ last)) ++ post)) = e ∙ ap (λ x. pre ++ x) (append_assoc open_ (first ++ (got ++ last)) post) in
    let e2 : code ≡ (pre ++ open_) ++ (first ++ ((got ++ last) ++ post)) = e1 ∙ sym (append_assoc pre open_ ((first ++ (got ++ last)) ++ post)) ∙ ap (λ x. (pre ++ open_) ++ x) (append_assoc first (got ++ last) post) in
    let e3 : code ≡ ((pre ++ open_) ++ first) ++ (got ++ (last ++ post)) =
    e2 ∙ sym (append_assoc (pre ++ open_) first ((got ++ last) ++ post)) ∙ ap (λ x. ((pre ++ open_) ++ first) ++ x) (append_assoc got last post) in
    let e4 : code ≡ (((pre ++ open_) ++ first) ++ got) ++ (last ++ post) = e3 ∙ sym (append_assoc ((pre ++ open_) ++ first) got (last ++ post)) in
    let n2 : length (pre ++ open_) ≡ b + front k = omega (arith, n, opening_size k, length-append pre open_) in
    let n3 : length ((pre ++ open_) ++ first) ≡ b + (front k + size a) = omega (arith, n2, size_is inside (b + front k) a, length-append (pre ++ open_) first) in
    let n4 : length (((pre ++ open_) ++ first) ++ got) ≡ b + c = omega (arith, n3, receiving_size (to 0) k.reception, length-append ((pre ++ open_) ++ first) got) in (
      stood_between b open_ code pre ((first ++ (got ++ last)) ++ post) e1 n,
      laid_between inside (b + front k) a code (pre ++ open_) ((got ++ last) ++ post) e2 n2,
      stood_between (b + (front k + size a)) got code ((pre ++ open_) ++ first) (last ++ post) e3 n3,
      laid_between to (b + c) l code (((pre ++ open_) ++ first) ++ got) post e4 n4,
    )
laid_between to b (gap l) code pre post e n = laid_between to b l code pre post e n

pub code_laid : (l : Layout) → LaidPart (code_from 0 l) 0 l
code_laid l = laid_between (λ n. 0 + entry n l) 0 l (code_from 0 l) [] [] (sym (append-nil (code_from 0 l))) refl

pub code_size : (l : Layout) → length (code_from 0 l) ≡ size l
code_size l = size_is (λ n. 0 + entry n l) 0 l
