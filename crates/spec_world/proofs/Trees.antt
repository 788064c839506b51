-- Trees of numbered nodes: each has a node above it, or none, and lists those below it. A node that is hung elsewhere, a new one and one that goes leave a tree.
use Rattle.std.proofs.Common.{◌≡◌, ◌⊎◌, inl, inr, suc, ◌≤◌, ℤ, Bool, true, false, not, ◌&&◌, ◌||◌, List, [], ◌∷◌, ◌++◌, length, Option, Some, None, refl, sym, ap, ◌∙◌, subst, cond, arith, IsTrue, unwrap_or}
use Rattle.std.specs.Prelude.{option_map}
use Rattle.std.specs.Ordering.{int_eq}
use Rattle.std.proofs.lemmas.List.Folds.{list_any-append}
use Rattle.spec_world.specs.WellFormed.{lists, once}
use Rattle.spec_world.specs.Families.{nowhere, leave_out, up_to}
use Rattle.spec_value.proofs.Same.{same_integer, integer_itself}

-- ---- numbers

pub same_or_not : (a b : ℤ) → (a ≡ b) ⊎ (int_eq a b ≡ false)
same_or_not a b = go (int_eq a b) refl
  where
    go : (r : Bool) → int_eq a b ≡ r → (a ≡ b) ⊎ (int_eq a b ≡ false)
    go true e = inl (same_integer a b e)
    go false e = inr e

pub other : (a b : ℤ) → int_eq a b ≡ false → a ≡ b → ⊥
other a b e is = let h : int_eq a b ≡ true = subst (λ c. int_eq a c ≡ true) is (integer_itself a) in absurd (cc (h, e))

pub turned : (a b : ℤ) → int_eq a b ≡ false → int_eq b a ≡ false
turned a b e = go (same_or_not b a)
  where
    go : (b ≡ a) ⊎ (int_eq b a ≡ false) → int_eq b a ≡ false
    go (inl is) = absurd (other a b e (sym is))
    go (inr h) = h

pub some_same : {X : Type 0} {x y : X} → Some x ≡ Some y → x ≡ y
some_same {x = x} e = ap (λ o. unwrap_or o x) e

-- ---- lists

pub left_out_lists : (o c : ℤ) (xs : List ℤ) → int_eq c o ≡ false → lists (leave_out o xs) c ≡ lists xs c
left_out_lists o c [] e = refl
left_out_lists o c (x ∷ xs) e = go (left_out_lists o c xs e) (same_or_not o x)
  where
    go : lists (leave_out o xs) c ≡ lists xs c → (o ≡ x) ⊎ (int_eq o x ≡ false) → lists (leave_out o (x ∷ xs)) c ≡ lists (x ∷ xs) c
    go rest (inl is) =
        ap (λ b. lists (cond (not b) (x ∷ leave_out o xs) (leave_out o xs)) c) (subst (λ z. int_eq o z ≡ true) is (integer_itself o))
        ∙ rest ∙ ap (λ b. b || lists xs c) (sym (subst (λ z. int_eq c z ≡ false) is e))
    go rest (inr h) = ap (λ b. lists (cond (not b) (x ∷ leave_out o xs) (leave_out o xs)) c) h ∙ ap (λ b. int_eq c x || b) rest

pub never_left : (o : ℤ) (xs : List ℤ) → lists (leave_out o xs) o ≡ false
never_left o [] = refl
never_left o (x ∷ xs) = go (never_left o xs) (int_eq o x) refl
  where
    go : lists (leave_out o xs) o ≡ false → (b : Bool) → int_eq o x ≡ b → lists (cond (not b) (x ∷ leave_out o xs) (leave_out o xs)) o ≡ false
    go rest true e = rest
    go rest false e = ap (λ b. b || lists (leave_out o xs) o) e ∙ rest

pub fewer : (o c : ℤ) (xs : List ℤ) → lists xs c ≡ false → lists (leave_out o xs) c ≡ false
fewer o c [] h = refl
fewer o c (x ∷ xs) h = go (fewer o c xs) (int_eq o x) (int_eq c x) refl h
  where
    go : (lists xs c ≡ false → lists (leave_out o xs) c ≡ false) → (b d : Bool) → int_eq c x ≡ d → (d || lists xs c) ≡ false
        → lists (cond (not b) (x ∷ leave_out o xs) (leave_out o xs)) c ≡ false
    go rest b true e k = cc
    go rest true false e k = rest k
    go rest false false e k = ap (λ z. z || lists (leave_out o xs) c) e ∙ rest k

pub once_left : (o : ℤ) (xs : List ℤ) → IsTrue (once xs) → IsTrue (once (leave_out o xs))
unfolding once
once_left o [] h = refl
once_left o (x ∷ xs) h = go (once_left o xs) (int_eq o x) (lists xs x) refl h
  where
    go : (IsTrue (once xs) → IsTrue (once (leave_out o xs))) → (b d : Bool) → lists xs x ≡ d → IsTrue (not d && once xs)
        → IsTrue (once (cond (not b) (x ∷ leave_out o xs) (leave_out o xs)))
    go rest b true e k = cc
    go rest true false e k = rest k
    go rest false false e k = ap (λ z. not z && once (leave_out o xs)) (fewer o x xs e) ∙ rest k

pub once_more : (o : ℤ) (xs : List ℤ) → IsTrue (once xs) → lists xs o ≡ false → IsTrue (once (xs ++ o ∷ []))
unfolding once
once_more o [] h k = refl
once_more o (x ∷ xs) h k = go (once_more o xs) (lists xs x) refl (same_or_not o x) h
  where
    go : (IsTrue (once xs) → lists xs o ≡ false → IsTrue (once (xs ++ o ∷ []))) → (d : Bool) → lists xs x ≡ d → (o ≡ x) ⊎ (int_eq o x ≡ false)
        → IsTrue (not d && once xs) → IsTrue (not (lists (xs ++ o ∷ []) x) && once (xs ++ o ∷ []))
    go rest true e s n = cc
    go rest false e (inl is) n = let clash : int_eq o x ≡ true = subst (λ z. int_eq o z ≡ true) is (integer_itself o) in absurd (cc (clash, k))
    go rest false e (inr s) n =
        ap (λ z. not z && once (xs ++ o ∷ [])) (list_any-append (int_eq x) xs (o ∷ []) ∙ (λ i. e i || (turned o x s i || false)))
        ∙ rest n (ap (λ z. z || lists xs o) (sym s) ∙ k)

pub nothing_left : (o : ℤ) (xs : List ℤ) → lists xs o ≡ false → leave_out o xs ≡ xs
nothing_left o [] h = refl
nothing_left o (x ∷ xs) h = go (nothing_left o xs) (int_eq o x) h
  where
    go : (lists xs o ≡ false → leave_out o xs ≡ xs) → (b : Bool) → (b || lists xs o) ≡ false → cond (not b) (x ∷ leave_out o xs) (leave_out o xs) ≡ x ∷ xs
    go rest true k = cc
    go rest false k = ap (λ z. x ∷ z) (rest k)

later_false : (a b : Bool) → (a || b) ≡ false → b ≡ false
later_false true b h = cc
later_false false b h = h

append-nil : {X : Type 0} (xs : List X) → xs ++ [] ≡ xs
append-nil [] = refl
append-nil (x ∷ xs) = ap (λ ys. x ∷ ys) (append-nil xs)

-- ---- nodes

-- the number above, and those below
abbrev pub Node : Type 0
Node = ℤ × List ℤ

abbrev pub Nodes : Type 0
Nodes = ℤ → Option Node

-- upwards to what is no node
abbrev pub Path : Nodes → ℤ → List ℤ → Type 0
Path t o [] = t o ≡ None
Path t o (p ∷ ps) = (p ≡ o) × ((x : Node) × (t o ≡ Some x) × Path t x.0 ps)

pub record IsTree (t : Nodes) : Type 0 where
  pub ends : (o : ℤ) (x : Node) → t o ≡ Some x → (ps : List ℤ) × Path t o ps
  pub single : (o : ℤ) (x : Node) → t o ≡ Some x → IsTrue (once x.1)
  pub below : (o : ℤ) (x : Node) (c : ℤ) → t o ≡ Some x → IsTrue (lists x.1 c) → (y : Node) × (t c ≡ Some y) × (y.0 ≡ o)
  pub above : (o : ℤ) (x : Node) → t o ≡ Some x → (x.0 ≡ nowhere) ⊎ ((y : Node) × (t x.0 ≡ Some y) × IsTrue (lists y.1 o))
  pub nobody : t nowhere ≡ None

pub one_path : (t : Nodes) (o : ℤ) (ps qs : List ℤ) → Path t o ps → Path t o qs → ps ≡ qs
one_path t o [] [] h k = refl
one_path t o [] (q ∷ qs) h k = let clash : None ≡ Some k.1.0 = sym h ∙ k.1.1 in absurd (cc (clash))
one_path t o (p ∷ ps) [] h k = let clash : None ≡ Some h.1.0 = sym k ∙ h.1.1 in absurd (cc (clash))
one_path t o (p ∷ ps) (q ∷ qs) h k =
    let same : k.1.0 ≡ h.1.0 = some_same (sym k.1.1 ∙ h.1.1) in
    λ i. (h.0 ∙ sym k.0) i ∷ one_path t h.1.0.0 ps qs h.1.2 (subst (λ (z : Node). Path t z.0 qs) same k.1.2) i

pub path_from : (t : Nodes) → IsTree t → (o : ℤ) → (ps : List ℤ) × Path t o ps
path_from t h o = go (t o) refl
  where
    go : (x : Option Node) → t o ≡ x → (ps : List ℤ) × Path t o ps
    go None e = ([], e)
    go (Some x) e = h.ends o x e

-- from each node that a path comes by it goes on as a path
pub path_onward : (t : Nodes) (p o : ℤ) (ps : List ℤ) → Path t o ps → IsTrue (lists ps p) → (qs : List ℤ) × Path t p qs × (length qs ≤ length ps)
path_onward t p o [] h is = cc
path_onward t p o (q ∷ ps) h is = go (same_or_not p q) (path_onward t p h.1.0.0 ps h.1.2)
  where
    go : (p ≡ q) ⊎ (int_eq p q ≡ false) → (IsTrue (lists ps p) → (qs : List ℤ) × Path t p qs × (length qs ≤ length ps))
        → (qs : List ℤ) × Path t p qs × (length qs ≤ suc (length ps))
    go (inl e) later = (q ∷ ps, subst (λ z. Path t z (q ∷ ps)) (sym (e ∙ h.0)) h, omega arith)
    go (inr e) later = let r = later (ap (λ b. b || lists ps p) (sym e) ∙ is) in (r.0, r.1, omega (arith, r.2))

-- no path comes by its beginning again
pub never_again : (t : Nodes) (o q : ℤ) (ps : List ℤ) → Path t o (q ∷ ps) → lists ps o ≡ false
never_again t o q ps h = go (lists ps o) refl
  where
    go : (b : Bool) → lists ps o ≡ b → lists ps o ≡ false
    go false e = e
    go true e =
        let r = path_onward t o h.1.0.0 ps h.1.2 e in
        let same : length r.0 ≡ suc (length ps) = ap length (one_path t o r.0 (q ∷ ps) r.1 h) in
        absurd (omega (arith, r.2, same))

-- what is on a path is a node
pub on_path : (t : Nodes) (p o : ℤ) (ps : List ℤ) → Path t o ps → IsTrue (lists ps p) → (x : Node) × (t p ≡ Some x)
on_path t p o [] h is = cc
on_path t p o (q ∷ ps) h is = go (same_or_not p q) (on_path t p h.1.0.0 ps h.1.2)
  where
    go : (p ≡ q) ⊎ (int_eq p q ≡ false) → (IsTrue (lists ps p) → (x : Node) × (t p ≡ Some x)) → (x : Node) × (t p ≡ Some x)
    go (inl e) later = (h.1.0, ap t (e ∙ h.0) ∙ h.1.1)
    go (inr e) later = later (ap (λ b. b || lists ps p) (sym e) ∙ is)

-- ---- a node goes elsewhere: under another one, or nowhere

abbrev pub hung_under : ℤ → ℤ → ℤ → List ℤ
hung_under o p q = cond (int_eq q p) (o ∷ []) []

abbrev pub rehung : Nodes → ℤ → ℤ → Nodes
rehung t o p q = option_map (λ x. (cond (int_eq q o) p x.0, leave_out o x.1 ++ hung_under o p q)) (t q)

pub either : (a b : Bool) → IsTrue (a || b) → IsTrue a ⊎ IsTrue b
either true b h = inl refl
either false b h = inr h

pub first_of : (a b : Bool) → IsTrue a → IsTrue (a || b)
first_of true b h = refl
first_of false b h = cc

pub second_of : (a b : Bool) → IsTrue b → IsTrue (a || b)
second_of true b h = refl
second_of false b h = h

pub listed_alone : (c o : ℤ) → IsTrue (lists (o ∷ []) c) → c ≡ o
listed_alone c o h = go (either (int_eq c o) false h)
  where
    go : IsTrue (int_eq c o) ⊎ IsTrue false → c ≡ o
    go (inl e) = same_integer c o e
    go (inr e) = cc

pub listed_left : (o c : ℤ) (xs : List ℤ) → IsTrue (lists (leave_out o xs) c) → IsTrue (lists xs c) × (int_eq c o ≡ false)
listed_left o c xs h = go (same_or_not c o)
  where
    go : (c ≡ o) ⊎ (int_eq c o ≡ false) → IsTrue (lists xs c) × (int_eq c o ≡ false)
    go (inl e) = let clash : lists (leave_out o xs) c ≡ false = subst (λ z. lists (leave_out o xs) z ≡ false) (sym e) (never_left o xs) in absurd (cc (clash, h))
    go (inr e) = (sym (left_out_lists o c xs e) ∙ h, e)

pub listed_hung : (o p q c : ℤ) (xs : List ℤ) → IsTrue (lists (xs ++ hung_under o p q) c) → ((c ≡ o) × (q ≡ p)) ⊎ IsTrue (lists xs c)
listed_hung o p q c xs h = go (same_or_not q p) (either (lists xs c) (lists (hung_under o p q) c) (sym (list_any-append (int_eq c) xs (hung_under o p q)) ∙ h))
  where
    go : (q ≡ p) ⊎ (int_eq q p ≡ false) → IsTrue (lists xs c) ⊎ IsTrue (lists (hung_under o p q) c) → ((c ≡ o) × (q ≡ p)) ⊎ IsTrue (lists xs c)
    go s (inl k) = inr k
    go (inl e) (inr k) =
        inl (listed_alone c o (ap (λ b. lists (cond b (o ∷ []) []) c) (sym (subst (λ z. int_eq q z ≡ true) e (integer_itself q))) ∙ k), e)
    go (inr e) (inr k) = let clash : false ≡ true = ap (λ b. lists (cond b (o ∷ []) []) c) (sym e) ∙ k in absurd (cc (clash))

-- what was listed is still, and what is hung there is
still_listed : (o p q c : ℤ) (xs : List ℤ) → IsTrue (lists xs c) → IsTrue (lists (xs ++ hung_under o p q) c)
still_listed o p q c xs h = list_any-append (int_eq c) xs (hung_under o p q) ∙ first_of (lists xs c) _ h

is_hung : (o p : ℤ) (xs : List ℤ) → IsTrue (lists (xs ++ hung_under o p p) o)
is_hung o p xs =
    list_any-append (int_eq o) xs (hung_under o p p)
    ∙ second_of (lists xs o) _ (ap (λ b. lists (cond b (o ∷ []) []) o) (integer_itself p) ∙ first_of (int_eq o o) false (integer_itself o))

once_hung : (o p q : ℤ) (xs : List ℤ) → IsTrue (once xs) → lists xs o ≡ false → IsTrue (once (xs ++ hung_under o p q))
once_hung o p q xs h k = go (int_eq q p)
  where
    go : (b : Bool) → IsTrue (once (xs ++ cond b (o ∷ []) []))
    go true = once_more o xs h k
    go false = subst (λ z. IsTrue (once z)) (sym (append-nil xs)) h

module _ (t : Nodes) (o p : ℤ) (x : Node) (is : t o ≡ Some x) (tree : IsTree t) (us : List ℤ) (way : Path t p us) (apart : lists us o ≡ false) where
  abbrev after : Nodes
  after = rehung t o p

  abbrev node_now : ℤ → Node → Node
  node_now q y = (cond (int_eq q o) p y.0, leave_out o y.1 ++ hung_under o p q)

  there_now : (q : ℤ) (y : Node) → t q ≡ Some y → after q ≡ Some (node_now q y)
  there_now q y e = ap (option_map (node_now q)) e

  kept_path : (q : ℤ) (ps : List ℤ) → Path t q ps → lists ps o ≡ false → Path after q ps
  kept_path q [] h k = ap (option_map (node_now q)) h
  kept_path q (r ∷ ps) h k = go (same_or_not q o) (kept_path h.1.0.0 ps h.1.2)
    where
      go : (q ≡ o) ⊎ (int_eq q o ≡ false) → (lists ps o ≡ false → Path after h.1.0.0 ps) → Path after q (r ∷ ps)
      go (inl e) more = let clash : int_eq o r ≡ true = subst (λ z. int_eq o z ≡ true) (sym (h.0 ∙ e)) (integer_itself o) in absurd (cc (clash, k))
      go (inr e) more =
          let rest : lists ps o ≡ false = later_false (int_eq o r) (lists ps o) k in
          (h.0, (node_now q h.1.0, there_now q h.1.0 h.1.1, subst (λ b. Path after (cond b p h.1.0.0) ps) (sym e) (more rest)))

  new_path : (q : ℤ) (ps : List ℤ) → Path t q ps → (qs : List ℤ) × Path after q qs
  new_path q [] h = ([], ap (option_map (node_now q)) h)
  new_path q (r ∷ ps) h = go (same_or_not q o) (new_path h.1.0.0 ps h.1.2)
    where
      go : (q ≡ o) ⊎ (int_eq q o ≡ false) → ((qs : List ℤ) × Path after h.1.0.0 qs) → (qs : List ℤ) × Path after q qs
      go (inl e) more =
          (q ∷ us, (refl, (node_now q h.1.0, there_now q h.1.0 h.1.1, subst (λ b. Path after (cond b p h.1.0.0) us) (sym (subst (λ z. int_eq q z ≡ true) e (integer_itself q))) (kept_path p us way apart))))
      go (inr e) more = (q ∷ more.0, (refl, (node_now q h.1.0, there_now q h.1.0 h.1.1, subst (λ b. Path after (cond b p h.1.0.0) more.0) (sym e) more.1)))

  -- what is there now was there
  was : (q : ℤ) (y : Node) → after q ≡ Some y → (z : Node) × (t q ≡ Some z) × (y ≡ node_now q z)
  was q y e = go (t q) refl
    where
      go : (z : Option Node) → t q ≡ z → (z : Node) × (t q ≡ Some z) × (y ≡ node_now q z)
      go None k = let clash : None ≡ Some y = sym (ap (option_map (node_now q)) k) ∙ e in absurd (cc (clash))
      go (Some z) k = (z, k, some_same (sym e ∙ there_now q z k))

  ends_now : (q : ℤ) (y : Node) → after q ≡ Some y → (ps : List ℤ) × Path after q ps
  ends_now q y e = let z = was q y e in let ps = tree.ends q z.0 z.1 in new_path q ps.0 ps.1

  single_now : (q : ℤ) (y : Node) → after q ≡ Some y → IsTrue (once y.1)
  single_now q y e =
      let z = was q y e in
      subst (λ (n : Node). IsTrue (once n.1)) (sym z.2) (once_hung o p q (leave_out o z.0.1) (once_left o z.0.1 (tree.single q z.0 z.1)) (never_left o z.0.1))

  below_now : (q : ℤ) (y : Node) (c : ℤ) → after q ≡ Some y → IsTrue (lists y.1 c) → (z : Node) × (after c ≡ Some z) × (z.0 ≡ q)
  below_now q y c e k =
      let z = was q y e in go z.0 z.1 (listed_hung o p q c (leave_out o z.0.1) (subst (λ (n : Node). IsTrue (lists n.1 c)) z.2 k))
    where
      go : (z : Node) → t q ≡ Some z → ((c ≡ o) × (q ≡ p)) ⊎ IsTrue (lists (leave_out o z.1) c) → (w : Node) × (after c ≡ Some w) × (w.0 ≡ q)
      go z at_q (inl s) =
          (node_now c x, there_now c x (ap t s.0 ∙ is), ap (λ b. cond b p x.0) (subst (λ m. int_eq c m ≡ true) s.0 (integer_itself c)) ∙ sym s.1)
      go z at_q (inr s) =
          let l = listed_left o c z.1 s in let d = tree.below q z c at_q l.0 in
          (node_now c d.0, there_now c d.0 d.1, ap (λ b. cond b p d.0.0) l.1 ∙ d.2)

  -- the new place is a node, or none is there
  place : (p ≡ nowhere) ⊎ ((y : Node) × (t p ≡ Some y)) → (q : ℤ) (y : Node) → after q ≡ Some y
      → (y.0 ≡ nowhere) ⊎ ((z : Node) × (after y.0 ≡ Some z) × IsTrue (lists z.1 q))
  place there q y e = let z = was q y e in go z.0 z.1 z.2 (same_or_not q o)
    where
      at_place : (p ≡ nowhere) ⊎ ((n : Node) × (t p ≡ Some n)) → q ≡ o → (p ≡ nowhere) ⊎ ((m : Node) × (after p ≡ Some m) × IsTrue (lists m.1 q))
      at_place (inl none) s = inl none
      at_place (inr n) s = inr (node_now p n.0, there_now p n.0 n.1, subst (λ j. IsTrue (lists (leave_out o n.0.1 ++ hung_under o p p) j)) (sym s) (is_hung o p (leave_out o n.0.1)))

      go : (z : Node) → t q ≡ Some z → y ≡ node_now q z → (q ≡ o) ⊎ (int_eq q o ≡ false)
          → (y.0 ≡ nowhere) ⊎ ((m : Node) × (after y.0 ≡ Some m) × IsTrue (lists m.1 q))
      go z at_q same (inl s) =
          subst (λ j. (j ≡ nowhere) ⊎ ((m : Node) × (after j ≡ Some m) × IsTrue (lists m.1 q)))
          (sym (ap (λ (n : Node). n.0) same ∙ ap (λ b. cond b p z.0) (subst (λ j. int_eq q j ≡ true) s (integer_itself q)))) (at_place there s)
      go z at_q same (inr s) =
          subst (λ j. (j ≡ nowhere) ⊎ ((m : Node) × (after j ≡ Some m) × IsTrue (lists m.1 q)))
          (sym (ap (λ (n : Node). n.0) same ∙ ap (λ b. cond b p z.0) s)) (by (tree.above q z at_q))
        where
          by : (z.0 ≡ nowhere) ⊎ ((n : Node) × (t z.0 ≡ Some n) × IsTrue (lists n.1 q))
              → (z.0 ≡ nowhere) ⊎ ((m : Node) × (after z.0 ≡ Some m) × IsTrue (lists m.1 q))
          by (inl none) = inl none
          by (inr n) =
              inr (node_now z.0 n.0, there_now z.0 n.0 n.1, still_listed o p z.0 q (leave_out o n.0.1) (left_out_lists o q n.0.1 s ∙ n.2))

  pub rehung_tree : (p ≡ nowhere) ⊎ ((y : Node) × (t p ≡ Some y)) → IsTree after
  rehung_tree there =
      record { ends = ends_now; single = single_now; below = below_now; above = place there; nobody = ap (option_map (node_now nowhere)) tree.nobody }

  -- ---- and each path is known

  -- of a node that is not below the one that goes elsewhere
  pub path_stays : (q : ℤ) (ps : List ℤ) → Path t q ps → lists ps o ≡ false → Path after q ps
  path_stays = kept_path

  -- of one that is below it: up to it as before, and on from the new place
  pub path_over : (q : ℤ) (ps : List ℤ) → Path t q ps → IsTrue (lists ps o) → Path after q (up_to o ps ++ us)
  path_over q [] h k = cc
  path_over q (r ∷ ps) h k = go (same_or_not o r) (path_over h.1.0.0 ps h.1.2)
    where
      go : (o ≡ r) ⊎ (int_eq o r ≡ false) → (IsTrue (lists ps o) → Path after h.1.0.0 (up_to o ps ++ us)) → Path after q (up_to o (r ∷ ps) ++ us)
      go (inl e) more =
          subst (λ b. Path after q (cond b (r ∷ []) (r ∷ up_to o ps) ++ us)) (sym (subst (λ z. int_eq o z ≡ true) e (integer_itself o)))
          (h.0, (node_now q h.1.0, there_now q h.1.0 h.1.1, subst (λ b. Path after (cond b p h.1.0.0) us) (sym (subst (λ z. int_eq q z ≡ true) (sym h.0 ∙ sym e) (integer_itself q))) (kept_path p us way apart)))
      go (inr e) more =
          subst (λ b. Path after q (cond b (r ∷ []) (r ∷ up_to o ps) ++ us)) (sym e) (
            h.0,
            (
              node_now q h.1.0,
              there_now q h.1.0 h.1.1,
              subst (λ b. Path after (cond b p h.1.0.0) (up_to o ps ++ us)) (sym (subst (λ z. int_eq z o ≡ false) h.0 (turned o r e))) (more (ap (λ b. b || lists ps o) (sym e) ∙ k)),
            ),
          )

-- ---- a new node, that lists none

abbrev pub added : Nodes → ℤ → ℤ → Nodes
added t o p q = cond (int_eq q o) (Some (p, [])) (option_map (λ x. (x.0, x.1 ++ hung_under o p q)) (t q))

module _ (t : Nodes) (o p : ℤ) (free : t o ≡ None) (somewhere : int_eq nowhere o ≡ false) (other_place : int_eq p o ≡ false) (tree : IsTree t) where
  abbrev with_new : Nodes
  with_new = added t o p

  abbrev node_then : ℤ → Node → Node
  node_then q y = (y.0, y.1 ++ hung_under o p q)

  is_old : (q : ℤ) (y : Node) → t q ≡ Some y → int_eq q o ≡ false
  is_old q y e = go (same_or_not q o)
    where
      go : (q ≡ o) ⊎ (int_eq q o ≡ false) → int_eq q o ≡ false
      go (inl s) = let clash : None ≡ Some y = sym free ∙ ap t (sym s) ∙ e in absurd (cc (clash))
      go (inr s) = s

  there_then : (q : ℤ) (y : Node) → t q ≡ Some y → with_new q ≡ Some (node_then q y)
  there_then q y e = ap (λ b. cond b (Some (p, [])) (option_map (node_then q) (t q))) (is_old q y e) ∙ ap (option_map (node_then q)) e

  new_then : with_new o ≡ Some (p, [])
  new_then = ap (λ b. cond b (Some (p, [])) (option_map (node_then o) (t o))) (integer_itself o)

  not_there : (q : ℤ) → int_eq q o ≡ false → t q ≡ None → with_new q ≡ None
  not_there q s e = ap (λ b. cond b (Some (p, [])) (option_map (node_then q) (t q))) s ∙ ap (option_map (node_then q)) e

  -- an old node's path is what it was
  pub old_path : (q : ℤ) (ps : List ℤ) → int_eq q o ≡ false → Path t q ps → Path with_new q ps
  old_path q [] s h = not_there q s h
  old_path q (r ∷ ps) s h = (h.0, (node_then q h.1.0, there_then q h.1.0 h.1.1, old_path h.1.0.0 ps (above_old (tree.above q h.1.0 h.1.1)) h.1.2))
    where
      above_old : (h.1.0.0 ≡ nowhere) ⊎ ((y : Node) × (t h.1.0.0 ≡ Some y) × IsTrue (lists y.1 q)) → int_eq h.1.0.0 o ≡ false
      above_old (inl e) = subst (λ z. int_eq z o ≡ false) (sym e) somewhere
      above_old (inr y) = is_old h.1.0.0 y.0 y.1

  pub new_node_path : (us : List ℤ) → Path t p us → Path with_new o (o ∷ us)
  new_node_path us way = (refl, ((p, []), new_then, old_path p us other_place way))

  which : (q : ℤ) (y : Node) → with_new q ≡ Some y → ((q ≡ o) × (y ≡ (p, []))) ⊎ ((z : Node) × (t q ≡ Some z) × (y ≡ node_then q z))
  which q y e = go (same_or_not q o) (t q) refl
    where
      go : (q ≡ o) ⊎ (int_eq q o ≡ false) → (z : Option Node) → t q ≡ z → ((q ≡ o) × (y ≡ (p, []))) ⊎ ((z : Node) × (t q ≡ Some z) × (y ≡ node_then q z))
      go (inl s) z k = inl (s, some_same (sym e ∙ ap with_new s ∙ new_then))
      go (inr s) None k = let clash : None ≡ Some y = sym (not_there q s k) ∙ e in absurd (cc (clash))
      go (inr s) (Some z) k = inr (z, k, some_same (sym e ∙ there_then q z k))

  ends_then : (q : ℤ) (y : Node) → with_new q ≡ Some y → (ps : List ℤ) × Path with_new q ps
  ends_then q y e = go (which q y e)
    where
      go : ((q ≡ o) × (y ≡ (p, []))) ⊎ ((z : Node) × (t q ≡ Some z) × (y ≡ node_then q z)) → (ps : List ℤ) × Path with_new q ps
      go (inl s) = let way = path_from t tree p in (o ∷ way.0, subst (λ j. Path with_new j (o ∷ way.0)) (sym s.0) (new_node_path way.0 way.1))
      go (inr z) = let way = tree.ends q z.0 z.1 in (way.0, old_path q way.0 (is_old q z.0 z.1) way.1)

  unlisted : (q : ℤ) (y : Node) → t q ≡ Some y → lists y.1 o ≡ false
  unlisted q y e = go (lists y.1 o) refl
    where
      go : (b : Bool) → lists y.1 o ≡ b → lists y.1 o ≡ false
      go false k = k
      go true k = let d = tree.below q y o e k in let clash : None ≡ Some d.0 = sym free ∙ d.1 in absurd (cc (clash))

  single_then : (q : ℤ) (y : Node) → with_new q ≡ Some y → IsTrue (once y.1)
  unfolding once
  single_then q y e = go (which q y e)
    where
      go : ((q ≡ o) × (y ≡ (p, []))) ⊎ ((z : Node) × (t q ≡ Some z) × (y ≡ node_then q z)) → IsTrue (once y.1)
      go (inl s) = subst (λ (n : Node). IsTrue (once n.1)) (sym s.1) refl
      go (inr z) = subst (λ (n : Node). IsTrue (once n.1)) (sym z.2) (once_hung o p q z.0.1 (tree.single q z.0 z.1) (unlisted q z.0 z.1))

  below_then : (q : ℤ) (y : Node) (c : ℤ) → with_new q ≡ Some y → IsTrue (lists y.1 c) → (z : Node) × (with_new c ≡ Some z) × (z.0 ≡ q)
  below_then q y c e k = go (which q y e)
    where
      by : (z : Node) → t q ≡ Some z → ((c ≡ o) × (q ≡ p)) ⊎ IsTrue (lists z.1 c) → (w : Node) × (with_new c ≡ Some w) × (w.0 ≡ q)
      by z at_q (inl s) = ((p, []), ap with_new s.0 ∙ new_then, sym s.1)
      by z at_q (inr s) = let d = tree.below q z c at_q s in (node_then c d.0, there_then c d.0 d.1, d.2)

      go : ((q ≡ o) × (y ≡ (p, []))) ⊎ ((z : Node) × (t q ≡ Some z) × (y ≡ node_then q z)) → (z : Node) × (with_new c ≡ Some z) × (z.0 ≡ q)
      go (inl s) = let clash : false ≡ true = subst (λ (n : Node). IsTrue (lists n.1 c)) s.1 k in absurd (cc (clash))
      go (inr z) = by z.0 z.1 (listed_hung o p q c z.0.1 (subst (λ (n : Node). IsTrue (lists n.1 c)) z.2 k))

  above_then : (p ≡ nowhere) ⊎ ((y : Node) × (t p ≡ Some y)) → (q : ℤ) (y : Node) → with_new q ≡ Some y
      → (y.0 ≡ nowhere) ⊎ ((z : Node) × (with_new y.0 ≡ Some z) × IsTrue (lists z.1 q))
  above_then there q y e = go (which q y e) there
    where
      by : (z : Node) → (z.0 ≡ nowhere) ⊎ ((n : Node) × (t z.0 ≡ Some n) × IsTrue (lists n.1 q))
          → (z.0 ≡ nowhere) ⊎ ((m : Node) × (with_new z.0 ≡ Some m) × IsTrue (lists m.1 q))
      by z (inl none) = inl none
      by z (inr n) = inr (node_then z.0 n.0, there_then z.0 n.0 n.1, still_listed o p z.0 q n.0.1 n.2)

      go : ((q ≡ o) × (y ≡ (p, []))) ⊎ ((z : Node) × (t q ≡ Some z) × (y ≡ node_then q z)) → (p ≡ nowhere) ⊎ ((n : Node) × (t p ≡ Some n))
          → (y.0 ≡ nowhere) ⊎ ((z : Node) × (with_new y.0 ≡ Some z) × IsTrue (lists z.1 q))
      go (inl s) (inl none) = inl (ap (λ (n : Node). n.0) s.1 ∙ none)
      go (inl s) (inr n) =
          subst (λ j. (j ≡ nowhere) ⊎ ((z : Node) × (with_new j ≡ Some z) × IsTrue (lists z.1 q))) (sym (ap (λ (n : Node). n.0) s.1))
          (inr (node_then p n.0, there_then p n.0 n.1, subst (λ j. IsTrue (lists (n.0.1 ++ hung_under o p p) j)) (sym s.0) (is_hung o p n.0.1)))
      go (inr z) d =
          subst (λ j. (j ≡ nowhere) ⊎ ((m : Node) × (with_new j ≡ Some m) × IsTrue (lists m.1 q))) (sym (ap (λ (n : Node). n.0) z.2)) (by z.0 (tree.above q z.0 z.1))

  pub added_tree : (p ≡ nowhere) ⊎ ((y : Node) × (t p ≡ Some y)) → IsTree with_new
  added_tree there =
      record { ends = ends_then; single = single_then; below = below_then; above = above_then there; nobody = not_there nowhere somewhere tree.nobody }

-- ---- a node that goes: those below it are nowhere

abbrev pub gone : Nodes → ℤ → Nodes
gone t o q = cond (int_eq q o) None (option_map (λ x. (cond (int_eq x.0 o) nowhere x.0, leave_out o x.1)) (t q))

module _ (t : Nodes) (o : ℤ) (tree : IsTree t) where
  abbrev left : Nodes
  left = gone t o

  abbrev node_left : Node → Node
  node_left y = (cond (int_eq y.0 o) nowhere y.0, leave_out o y.1)

  there_left : (q : ℤ) (y : Node) → int_eq q o ≡ false → t q ≡ Some y → left q ≡ Some (node_left y)
  there_left q y s e = ap (λ b. cond b None (option_map node_left (t q))) s ∙ ap (option_map node_left) e

  none_left : (q : ℤ) → t q ≡ None → left q ≡ None
  none_left q e = go (int_eq q o)
    where
      go : (b : Bool) → cond b None (option_map node_left (t q)) ≡ None
      go true = refl
      go false = ap (option_map node_left) e

  goes : left o ≡ None
  goes = ap (λ b. cond b None (option_map node_left (t o))) (integer_itself o)

  was_left : (q : ℤ) (y : Node) → left q ≡ Some y → (int_eq q o ≡ false) × ((z : Node) × (t q ≡ Some z) × (y ≡ node_left z))
  was_left q y e = go (same_or_not q o) (t q) refl
    where
      go : (q ≡ o) ⊎ (int_eq q o ≡ false) → (z : Option Node) → t q ≡ z → (int_eq q o ≡ false) × ((z : Node) × (t q ≡ Some z) × (y ≡ node_left z))
      go (inl s) z k = let clash : None ≡ Some y = sym (ap left s ∙ goes) ∙ e in absurd (cc (clash))
      go (inr s) None k = let clash : None ≡ Some y = sym (none_left q k) ∙ e in absurd (cc (clash))
      go (inr s) (Some z) k = (s, (z, k, some_same (sym e ∙ there_left q z s k)))

  path_left : (q : ℤ) (ps : List ℤ) → Path t q ps → (qs : List ℤ) × Path left q qs
  path_left q [] h = ([], none_left q h)
  path_left q (r ∷ ps) h = go (same_or_not q o) (same_or_not h.1.0.0 o) (path_left h.1.0.0 ps h.1.2)
    where
      go : (q ≡ o) ⊎ (int_eq q o ≡ false) → (h.1.0.0 ≡ o) ⊎ (int_eq h.1.0.0 o ≡ false) → ((qs : List ℤ) × Path left h.1.0.0 qs) → (qs : List ℤ) × Path left q qs
      go (inl s) d more = ([], ap left s ∙ goes)
      go (inr s) (inl d) more = (
        q ∷ [],
        (
          refl,
          (
            node_left h.1.0,
            there_left q h.1.0 s h.1.1,
            subst (λ b. left (cond b nowhere h.1.0.0) ≡ None) (sym (subst (λ z. int_eq h.1.0.0 z ≡ true) d (integer_itself h.1.0.0))) (none_left nowhere tree.nobody),
          ),
        ),
      )
      go (inr s) (inr d) more = (q ∷ more.0, (refl, (node_left h.1.0, there_left q h.1.0 s h.1.1, subst (λ b. Path left (cond b nowhere h.1.0.0) more.0) (sym d) more.1)))

  ends_left : (q : ℤ) (y : Node) → left q ≡ Some y → (ps : List ℤ) × Path left q ps
  ends_left q y e = let z = was_left q y e in let way = tree.ends q z.1.0 z.1.1 in path_left q way.0 way.1

  single_left : (q : ℤ) (y : Node) → left q ≡ Some y → IsTrue (once y.1)
  single_left q y e = let z = was_left q y e in subst (λ (n : Node). IsTrue (once n.1)) (sym z.1.2) (once_left o z.1.0.1 (tree.single q z.1.0 z.1.1))

  below_left : (q : ℤ) (y : Node) (c : ℤ) → left q ≡ Some y → IsTrue (lists y.1 c) → (z : Node) × (left c ≡ Some z) × (z.0 ≡ q)
  below_left q y c e k =
      let z = was_left q y e in
      let l = listed_left o c z.1.0.1 (subst (λ (n : Node). IsTrue (lists n.1 c)) z.1.2 k) in
      let d = tree.below q z.1.0 c z.1.1 l.0 in
      (node_left d.0, there_left c d.0 l.1 d.1, ap (λ b. cond b nowhere d.0.0) (subst (λ j. int_eq j o ≡ false) (sym d.2) z.0) ∙ d.2)

  above_left : (q : ℤ) (y : Node) → left q ≡ Some y → (y.0 ≡ nowhere) ⊎ ((z : Node) × (left y.0 ≡ Some z) × IsTrue (lists z.1 q))
  above_left q y e = let z = was_left q y e in go z.1.0 z.0 z.1.2 (same_or_not z.1.0.0 o) (tree.above q z.1.0 z.1.1)
    where
      go : (z : Node) → int_eq q o ≡ false → y ≡ node_left z → (z.0 ≡ o) ⊎ (int_eq z.0 o ≡ false)
          → (z.0 ≡ nowhere) ⊎ ((n : Node) × (t z.0 ≡ Some n) × IsTrue (lists n.1 q))
          → (y.0 ≡ nowhere) ⊎ ((m : Node) × (left y.0 ≡ Some m) × IsTrue (lists m.1 q))
      go z s same (inl d) up = inl (ap (λ (n : Node). n.0) same ∙ ap (λ b. cond b nowhere z.0) (subst (λ j. int_eq z.0 j ≡ true) d (integer_itself z.0)))
      go z s same (inr d) (inl none) = inl (ap (λ (n : Node). n.0) same ∙ ap (λ b. cond b nowhere z.0) d ∙ none)
      go z s same (inr d) (inr n) =
          subst (λ j. (j ≡ nowhere) ⊎ ((m : Node) × (left j ≡ Some m) × IsTrue (lists m.1 q))) (sym (ap (λ (n : Node). n.0) same ∙ ap (λ b. cond b nowhere z.0) d))
          (inr (node_left n.0, there_left z.0 n.0 d n.1, left_out_lists o q n.0.1 s ∙ n.2))

  pub gone_tree : IsTree left
  gone_tree = record { ends = ends_left; single = single_left; below = below_left; above = above_left; nobody = none_left nowhere tree.nobody }

  -- where no node is below it, a path that does not come by it stays
  pub path_without : ((q : ℤ) (y : Node) → t q ≡ Some y → int_eq y.0 o ≡ false) → (q : ℤ) (ps : List ℤ) → int_eq q o ≡ false → Path t q ps → Path left q ps
  path_without alone q [] s h = none_left q h
  path_without alone q (r ∷ ps) s h = (
    h.0,
    (
      node_left h.1.0,
      there_left q h.1.0 s h.1.1,
      subst (λ b. Path left (cond b nowhere h.1.0.0) ps) (sym (alone q h.1.0 h.1.1)) (path_without alone h.1.0.0 ps (alone q h.1.0 h.1.1) h.1.2),
    ),
  )
