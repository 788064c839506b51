-- Which handlers of a layout's code stand around a place: those of the part that it is in, and none at the layout's own instructions.
use Rattle.std.proofs.Common.{◌≡◌, ℕ, zero, suc, ◌+◌, ◌≤◌, ◌<◌, List, [], ◌∷◌, ◌++◌, Bool, true, false, ◌&&◌, cond, Option, Some, None, refl, ap, ◌∙◌, subst, arith}
use Rattle.std.specs.Prelude.{nat_le, nat_lt}
use Rattle.std.proofs.lemmas.Bool.{le-leb, lt-leb, lt-ltb, le-ltb}
use Rattle.std.proofs.lemmas.List.{append-nil}
use Rattle.std.proofs.lemmas.List.Elements.{filter-append}
use Rattle.moo_code.specs.Instruction.{Operation, Handler}
use Rattle.moo_code.specs.Layout.{Link, Caught, Layout, stop, own, inner, gap, front, reception_size, size, rest, reached, entry, handler, handlers}
use Rattle.moo_code.specs.Machine.{covers, handlers_at}
use Rattle.moo_code.proofs.Places.{IsPart, same_link, same_layout}

-- ---- one handler

if_covered : (h : Handler) (pc : ℕ) (a b : Bool) → nat_le h.first pc ≡ a → nat_lt pc h.past ≡ b → handlers_at (h ∷ []) pc ≡ cond (a && b) (h ∷ []) []
if_covered h pc a b e f = ap (λ z. cond (z && nat_lt pc h.past) (h ∷ []) []) e ∙ ap (λ z. cond (a && z) (h ∷ []) []) f

one_before : (h : Handler) (pc : ℕ) → pc < h.first → handlers_at (h ∷ []) pc ≡ []
one_before h pc e = ap (λ z. cond (z && nat_lt pc h.past) (h ∷ []) []) (lt-leb h.first pc e)

one_behind : (h : Handler) (pc : ℕ) → h.past ≤ pc → handlers_at (h ∷ []) pc ≡ []
one_behind h pc e = by (nat_le h.first pc) refl
  where
    by : (a : Bool) → nat_le h.first pc ≡ a → handlers_at (h ∷ []) pc ≡ []
    by true f = if_covered h pc true false f (le-ltb pc h.past e)
    by false f = if_covered h pc false false f (le-ltb pc h.past e)

one_around : (h : Handler) (pc : ℕ) → h.first ≤ pc → pc < h.past → handlers_at (h ∷ []) pc ≡ h ∷ []
one_around h pc e f = if_covered h pc true true (le-leb h.first pc e) (lt-ltb pc h.past f)

before : (to : ℕ → ℕ) (first past : ℕ) (o : Option Caught) (pc : ℕ) → pc < first → handlers_at (handler to first past o) pc ≡ []
before to first past None pc e = refl
before to first past (Some c) pc e = one_before _ pc e

behind : (to : ℕ → ℕ) (first past : ℕ) (o : Option Caught) (pc : ℕ) → past ≤ pc → handlers_at (handler to first past o) pc ≡ []
behind to first past None pc e = refl
behind to first past (Some c) pc e = one_behind _ pc e

among : (to : ℕ → ℕ) (first past : ℕ) (o : Option Caught) (pc : ℕ) → first ≤ pc → pc < past → handlers_at (handler to first past o) pc ≡ handler to first past o
among to first past None pc e f = refl
among to first past (Some c) pc e f = one_around _ pc e f

-- ---- the handlers of a part, its own, and those of what comes after it

three : (xs ys zs : List Handler) (pc : ℕ) → handlers_at (xs ++ (ys ++ zs)) pc ≡ handlers_at xs pc ++ (handlers_at ys pc ++ handlers_at zs pc)
three xs ys zs pc = filter-append (covers pc) xs (ys ++ zs) ∙ ap (λ z. handlers_at xs pc ++ z) (filter-append (covers pc) ys zs)

three_are : (xs ys zs as_ bs cs : List Handler) (pc : ℕ) → handlers_at xs pc ≡ as_ → handlers_at ys pc ≡ bs → handlers_at zs pc ≡ cs → handlers_at (xs ++ (ys ++ zs)) pc ≡ as_ ++ (bs ++ cs)
three_are xs ys zs as_ bs cs pc e f g =
    three xs ys zs pc ∙ ap (λ z. z ++ (handlers_at ys pc ++ handlers_at zs pc)) e ∙ ap (λ z. as_ ++ (z ++ handlers_at zs pc)) f ∙ ap (λ z. as_ ++ (bs ++ z)) g

-- ---- outside of the code there are none

pub none_before : (to : ℕ → ℕ) (b : ℕ) (l : Layout) (pc : ℕ) → pc < b → handlers_at (handlers to b l) pc ≡ []
none_before to b stop pc e = refl
none_before to b (own op ns l) pc e = none_before to (suc b) l pc (omega (arith, e))
none_before to b (inner k a l) pc e =
    three_are _ _ _ [] [] [] pc (none_before (λ n. b + front k + entry n a) (b + front k) a pc (omega (arith, e))) (before to (b + front k) (b + front k + size a) k.caught pc (omega (arith, e)))
    (none_before to (b + (front k + (size a + reception_size k.reception))) l pc (omega (arith, e)))
none_before to b (gap l) pc e = none_before to b l pc e

pub none_behind : (to : ℕ → ℕ) (b : ℕ) (l : Layout) (pc : ℕ) → b + size l ≤ pc → handlers_at (handlers to b l) pc ≡ []
none_behind to b stop pc e = refl
none_behind to b (own op ns l) pc e = none_behind to (suc b) l pc (omega (arith, e))
none_behind to b (inner k a l) pc e =
    three_are _ _ _ [] [] [] pc (none_behind (λ n. b + front k + entry n a) (b + front k) a pc (omega (arith, e))) (behind to (b + front k) (b + front k + size a) k.caught pc (omega (arith, e)))
    (none_behind to (b + (front k + (size a + reception_size k.reception))) l pc (omega (arith, e)))
none_behind to b (gap l) pc e = none_behind to b l pc e

-- ---- at an operation of the layout itself there are none

pub none_at_own : (to : ℕ → ℕ) (b n : ℕ) (l : Layout) (op : Operation) (ns : List ℕ) (more : Layout) (pc : ℕ) → rest n l ≡ own op ns more → pc ≡ b + reached n l → handlers_at (handlers to b l) pc ≡ []
none_at_own to b zero l op ns more pc e p =
    ap (λ z. handlers_at (handlers to b z) pc) e ∙ none_before to (suc b) more pc (omega (arith, p))
none_at_own to b (suc n) stop op ns more pc e p = refl
none_at_own to b (suc n) (own o ms l) op ns more pc e p = none_at_own to (suc b) (suc n) l op ns more pc e (omega (arith, p))
none_at_own to b (suc n) (inner k a l) op ns more pc e p =
    three_are _ _ _ [] [] [] pc (none_behind (λ n. b + front k + entry n a) (b + front k) a pc (omega (arith, p))) (behind to (b + front k) (b + front k + size a) k.caught pc (omega (arith, p)))
    (none_at_own to (b + (front k + (size a + reception_size k.reception))) n l op ns more pc e (omega (arith, p)))
none_at_own to b (suc n) (gap l) op ns more pc e p = none_at_own to b n l op ns more pc e p

-- nor where a part's value is received

pub none_received : (to : ℕ → ℕ) (b n : ℕ) (l : Layout) (k : Link) (a : Layout) (pc : ℕ) → IsPart n l k a → reception_size k.reception ≡ 1 → pc ≡ b + entry (suc n) l + (front k + size a) → handlers_at (handlers to b l) pc ≡ []
none_received to b n stop k a pc h r p = refl
none_received to b n (own op ns l) k a pc h r p = none_received to (suc b) n l k a pc h r (omega (arith, p))
none_received to b zero (inner j c l) k a pc h r p =
    let s : size c ≡ size a = ap size (same_layout c a h.1) in
    let f : front j ≡ front k = ap front (same_link j k h.0) in
    let g : reception_size j.reception ≡ 1 = ap (λ (z : Link). reception_size z.reception) (same_link j k h.0) ∙ r in
    three_are _ _ _ [] [] [] pc (none_behind (λ n. b + front j + entry n c) (b + front j) c pc (omega (arith, p, s, f))) (behind to (b + front j) (b + front j + size c) j.caught pc (omega (arith, p, s, f)))
    (none_before to (b + (front j + (size c + reception_size j.reception))) l pc (omega (arith, p, s, f, g)))
none_received to b (suc n) (inner j c l) k a pc h r p =
    three_are _ _ _ [] [] [] pc (none_behind (λ n. b + front j + entry n c) (b + front j) c pc (omega (arith, p))) (behind to (b + front j) (b + front j + size c) j.caught pc (omega (arith, p)))
    (none_received to (b + (front j + (size c + reception_size j.reception))) n l k a pc h r (omega (arith, p)))
none_received to b zero (gap l) k a pc h r p = cc
none_received to b (suc n) (gap l) k a pc h r p = none_received to b n l k a pc h r p

-- ---- in a part there are those of the part, and then its own

abbrev pub Around : (ℕ → ℕ) → ℕ → Layout → ℕ → Link → Layout → ℕ → Type 0
Around to b l pc k a c =
    handlers_at (handlers to b l) pc ≡ handlers_at (handlers (λ n. c + entry n a) c a) pc ++ handler to c (c + size a) k.caught

moved_around : (to : ℕ → ℕ) (b : ℕ) (l : Layout) (pc : ℕ) (k : Link) (a : Layout) (c d : ℕ) → c ≡ d → Around to b l pc k a c → Around to b l pc k a d
moved_around to b l pc k a c d e h = subst (Around to b l pc k a) e h

pub in_part : (to : ℕ → ℕ) (b n : ℕ) (l : Layout) (k : Link) (a : Layout) (pc : ℕ) → IsPart n l k a → b + entry (suc n) l + front k ≤ pc → pc < b + entry (suc n) l + front k + size a
    → Around to b l pc k a (b + entry (suc n) l + front k)
in_part to b n stop k a pc h e f = cc
in_part to b n (own op ns l) k a pc h e f =
    moved_around to b (own op ns l) pc k a (suc b + entry (suc n) l + front k) (b + suc (entry (suc n) l) + front k) (omega arith)
    (in_part to (suc b) n l k a pc h (omega (arith, e)) (omega (arith, f)))
in_part to b zero (inner j c l) k a pc h e f =
    let m : b + front k ≡ b + 0 + front k = omega arith in
    let there : b + front j ≤ pc → pc < b + front j + size c → Around to b (inner j c l) pc j c (b + front j) =
    λ x y. three_are _ _ _ (handlers_at (handlers (λ n. b + front j + entry n c) (b + front j) c) pc) (handler to (b + front j) (b + front j + size c) j.caught) [] pc refl
    (among to (b + front j) (b + front j + size c) j.caught pc x y) (none_before to (b + (front j + (size c + reception_size j.reception))) l pc (omega (arith, y)))
    ∙ ap (λ z. handlers_at (handlers (λ n. b + front j + entry n c) (b + front j) c) pc ++ z) (append-nil (handler to (b + front j) (b + front j + size c) j.caught)) in
    moved_around to b (inner j c l) pc k a (b + front k) (b + 0 + front k) m
    (subst (λ z. b + front z ≤ pc → pc < b + front z + size a → Around to b (inner j c l) pc z a (b + front z)) (same_link j k h.0)
    (subst (λ z. b + front j ≤ pc → pc < b + front j + size z → Around to b (inner j c l) pc j z (b + front j)) (same_layout c a h.1) there) (omega (arith, e)) (omega (arith, f)))
in_part to b (suc n) (inner j c l) k a pc h e f =
    let d = front j + (size c + reception_size j.reception) in
    let m : b + d + entry (suc n) l + front k ≡ b + (front j + (size c + (reception_size j.reception + entry (suc n) l))) + front k = omega arith in
    moved_around to b (inner j c l) pc k a (b + d + entry (suc n) l + front k) _ m
    (three_are _ _ _ [] [] (handlers_at (handlers (λ i. b + d + entry (suc n) l + front k + entry i a) (b + d + entry (suc n) l + front k) a) pc ++ handler to (b + d + entry (suc n) l + front k) (b + d + entry (suc n) l + front k + size a) k.caught) pc
    (none_behind (λ n. b + front j + entry n c) (b + front j) c pc (omega (arith, e))) (behind to (b + front j) (b + front j + size c) j.caught pc (omega (arith, e)))
    (in_part to (b + d) n l k a pc h (omega (arith, e)) (omega (arith, f))))
in_part to b zero (gap l) k a pc h e f = cc
in_part to b (suc n) (gap l) k a pc h e f = in_part to b n l k a pc h e f
