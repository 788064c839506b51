-- The code of a layout's draft is the layout's code, and its handlers are the layout's.
use Rattle.std.proofs.Common.{◌≡◌, ℕ, zero, suc, ◌+◌, List, [], ◌∷◌, ◌++◌, length, take, refl, sym, ap, ◌∙◌, append_assoc, length-append, arith}
use Rattle.std.specs.Prelude.{get_or, Option, Some, None}
use Rattle.std.proofs.lemmas.List.{append-nil}
use Rattle.moo_code.specs.Instruction.{Instruction, Handler, placed, perform, sign_parts}
use Rattle.moo_code.specs.Layout.{Layout, stop, own, inner, gap, Link, Caught, front, reception_size, size, entry, assembled, code_from, handlers, handlers_from, handler, receiving, opening, whole_layout}
use Rattle.moo_program.specs.Drafting.{Draught, own_of, part_of, close_of, gap_of, State, over, count}
use Rattle.moo_program.specs.Assembling.{Open, place_of, scan, opened, code_in, handlers_in, AssemblesCode, AssemblesHandlers}

-- the items of a layout
abbrev pub items_in : Layout → List Draught
items_in stop = []
items_in (own op ns l) = own_of op ns ∷ items_in l
items_in (inner k a l) = part_of k.opens (count a) (size a) ∷ (items_in a ++ close_of k.reception k.caught ∷ items_in l)
items_in (gap l) = gap_of ∷ items_in l

pub items_over : (l : Layout) (s : State) → (over l s).0 ≡ items_in l ++ s.0
items_over stop s = refl
items_over (own op ns l) s = ap (λ ds. own_of op ns ∷ ds) (items_over l s)
items_over (inner k a l) s =
    ap (λ ds. part_of k.opens (count a) (size a) ∷ ds)
    (items_over a (close_of k.reception k.caught ∷ (over l s).0, reception_size k.reception + (over l s).1)
    ∙ ap (λ ds. items_in a ++ close_of k.reception k.caught ∷ ds) (items_over l s) ∙ sym (append_assoc (items_in a) (close_of k.reception k.caught ∷ items_in l) s.0))
items_over (gap l) s = ap (λ ds. gap_of ∷ ds) (items_over l s)

pub items_count : (l : Layout) → length (items_in l) ≡ count l
items_count stop = refl
items_count (own op ns l) = ap suc (items_count l)
items_count (inner k a l) = omega (arith, length-append (items_in a) (close_of k.reception k.caught ∷ items_in l), items_count a, items_count l)
items_count (gap l) = ap suc (items_count l)

passed_over : (xs ys : List Draught) (b : ℕ) → scan (length xs) b (xs ++ ys) ≡ scan zero b ys
passed_over [] ys b = refl
passed_over (x ∷ xs) ys b = passed_over xs ys b

start_is : (l : Layout) (n b d : ℕ) → d ≡ b + size l → get_or (scan zero b (items_in l)) n d ≡ b + entry (suc n) l
start_is stop n b d e = omega (arith, e)
start_is (own op ns l) n b d e = let h = start_is l n (suc b) d (omega (arith, e)) in omega (arith, h)
start_is (inner k a l) zero b d e = omega arith
start_is (inner k a l) (suc n) b d e =
    let past : ℕ = b + (front k + size a) in
    let p : scan (count a) past (items_in a ++ close_of k.reception k.caught ∷ items_in l) ≡ scan zero past (close_of k.reception k.caught ∷ items_in l) =
    ap (λ m. scan m past (items_in a ++ close_of k.reception k.caught ∷ items_in l)) (sym (items_count a)) ∙ passed_over (items_in a) (close_of k.reception k.caught ∷ items_in l) past in
    let h = start_is l n (past + reception_size k.reception) d (omega (arith, e)) in
    ap (λ xs. get_or xs n d) p ∙ h ∙ omega arith
start_is (gap l) zero b d e = omega arith
start_is (gap l) (suc n) b d e = start_is l n b d e

pub places_are : (l : Layout) (b n : ℕ) → place_of (opened b (items_in l) (size l)) n ≡ b + entry n l
places_are l b zero = refl
places_are l b (suc n) = start_is l n b (b + size l) refl

placed_same : (f g : ℕ → ℕ) → ((n : ℕ) → f n ≡ g n) → (ns : List ℕ) → placed f ns ≡ placed g ns
placed_same f g e [] = refl
placed_same f g e (n ∷ ns) = ap (λ p. (n, p) ∷ placed f ns) (e n) ∙ ap (λ ps. (n, g n) ∷ ps) (placed_same f g e ns)

assembled_same : (f g : ℕ → ℕ) → ((n : ℕ) → f n ≡ g n) → (b : ℕ) (l : Layout) → assembled f b l ≡ assembled g b l
assembled_same f g e b stop = refl
assembled_same f g e b (own op ns l) = ap (λ ps. perform op ps ∷ assembled f (suc b) l) (placed_same f g e ns) ∙ ap (λ is. perform op (placed g ns) ∷ is) (assembled_same f g e (suc b) l)
assembled_same f g e b (inner k a l) =
    ap (λ is. opening k ++ (assembled (λ n. b + front k + entry n a) (b + front k) a ++ is))
    (ap (λ m. receiving m k.reception ++ assembled f (b + (front k + (size a + reception_size k.reception))) l) (e 0)
    ∙ ap (λ is. receiving (g 0) k.reception ++ is) (assembled_same f g e (b + (front k + (size a + reception_size k.reception))) l))
assembled_same f g e b (gap l) = assembled_same f g e b l

handler_same : (f g : ℕ → ℕ) → ((n : ℕ) → f n ≡ g n) → (first past : ℕ) (c : Option Caught) → handler f first past c ≡ handler g first past c
handler_same f g e first past None = refl
handler_same f g e first past (Some c) = ap (λ ps. record { first = first; past = past; height = c.height; held = c.held; places = ps; sign = c.sign } ∷ []) (placed_same f g e (sign_parts c.sign))

handlers_same : (f g : ℕ → ℕ) → ((n : ℕ) → f n ≡ g n) → (b : ℕ) (l : Layout) → handlers f b l ≡ handlers g b l
handlers_same f g e b stop = refl
handlers_same f g e b (own op ns l) = handlers_same f g e (suc b) l
handlers_same f g e b (inner k a l) =
    ap (λ hs. handlers (λ n. b + front k + entry n a) (b + front k) a ++ hs)
    (ap (λ hs. hs ++ handlers f (b + (front k + (size a + reception_size k.reception))) l) (handler_same f g e (b + front k) (b + front k + size a) k.caught)
    ∙ ap (λ hs. handler g (b + front k) (b + front k + size a) k.caught ++ hs) (handlers_same f g e (b + (front k + (size a + reception_size k.reception))) l))
handlers_same f g e b (gap l) = handlers_same f g e b l

taken_front : (xs ys : List Draught) (n : ℕ) → length xs ≡ n → take n (xs ++ ys) ≡ xs
taken_front xs ys n e = ap (λ m. take m (xs ++ ys)) (sym e) ∙ all_taken xs ys
  where
    all_taken : (xs ys : List Draught) → take (length xs) (xs ++ ys) ≡ xs
    all_taken [] ys = refl
    all_taken (x ∷ xs) ys = ap (λ ts. x ∷ ts) (all_taken xs ys)

-- a part is opened with its own places
pub part_opened : (k : Link) (a l : Layout) (ds : List Draught) (b : ℕ)
    → opened (b + front k) (take (count a) ((items_in a ++ close_of k.reception k.caught ∷ items_in l) ++ ds)) (size a) ≡ opened (b + front k) (items_in a) (size a)
part_opened k a l ds b =
    ap (λ ts. opened (b + front k) ts (size a))
    (ap (take (count a)) (append_assoc (items_in a) (close_of k.reception k.caught ∷ items_in l) ds) ∙ taken_front (items_in a) (close_of k.reception k.caught ∷ (items_in l ++ ds)) (count a) (items_count a))

pub code_laid : (l : Layout) (c : Open) (cs : List Open) (b : ℕ) (ds : List Draught)
    → code_in (c ∷ cs) b (items_in l ++ ds) ≡ assembled (place_of c) b l ++ code_in (c ∷ cs) (b + size l) ds
code_laid stop c cs b ds = ap (λ n. code_in (c ∷ cs) n ds) (omega arith)
code_laid (own op ns l) c cs b ds =
    let n : suc b + size l ≡ b + suc (size l) = omega arith in
    ap (λ is. perform op (placed (place_of c) ns) ∷ is) (code_laid l c cs (suc b) ds ∙ ap (λ m. assembled (place_of c) (suc b) l ++ code_in (c ∷ cs) m ds) n)
code_laid (inner k a l) c cs b ds =
    let closing : Draught = close_of k.reception k.caught in
    let o : Open = opened (b + front k) (items_in a) (size a) in
    let after : ℕ = b + (front k + (size a + reception_size k.reception)) in
    let p : b + front k + size a + reception_size k.reception ≡ after = omega arith in
    let q : after + size l ≡ b + size (inner k a l) = omega arith in
    let part : List Instruction = assembled (λ n. b + front k + entry n a) (b + front k) a in
    ap (λ x. opening k ++ code_in (x ∷ c ∷ cs) (b + front k) ((items_in a ++ closing ∷ items_in l) ++ ds)) (part_opened k a l ds b)
    ∙ ap (λ ts. opening k ++ code_in (o ∷ c ∷ cs) (b + front k) ts) (append_assoc (items_in a) (closing ∷ items_in l) ds)
    ∙ ap (λ is. opening k ++ is) (code_laid a o (c ∷ cs) (b + front k) (closing ∷ (items_in l ++ ds)))
    ∙ ap (λ is. opening k ++ (is ++ code_in (o ∷ c ∷ cs) (b + front k + size a) (closing ∷ (items_in l ++ ds)))) (assembled_same (place_of o) (λ n. b + front k + entry n a) (places_are a (b + front k)) (b + front k) a)
    ∙ ap (λ n. opening k ++ (part ++ (receiving c.end k.reception ++ code_in (c ∷ cs) n (items_in l ++ ds)))) p
    ∙ ap (λ is. opening k ++ (part ++ (receiving c.end k.reception ++ is))) (code_laid l c cs after ds)
    ∙ ap (λ n. opening k ++ (part ++ (receiving c.end k.reception ++ (assembled (place_of c) after l ++ code_in (c ∷ cs) n ds)))) q
    ∙ ap (λ is. opening k ++ (part ++ is)) (sym (append_assoc (receiving c.end k.reception) (assembled (place_of c) after l) (code_in (c ∷ cs) (b + size (inner k a l)) ds)))
    ∙ ap (λ is. opening k ++ is) (sym (append_assoc part (receiving c.end k.reception ++ assembled (place_of c) after l) (code_in (c ∷ cs) (b + size (inner k a l)) ds)))
    ∙ sym (append_assoc (opening k) (part ++ (receiving c.end k.reception ++ assembled (place_of c) after l)) (code_in (c ∷ cs) (b + size (inner k a l)) ds))
code_laid (gap l) c cs b ds = code_laid l c cs b ds

pub handlers_laid : (l : Layout) (c : Open) (cs : List Open) (b : ℕ) (ds : List Draught)
    → handlers_in (c ∷ cs) b (items_in l ++ ds) ≡ handlers (place_of c) b l ++ handlers_in (c ∷ cs) (b + size l) ds
handlers_laid stop c cs b ds = ap (λ n. handlers_in (c ∷ cs) n ds) (omega arith)
handlers_laid (own op ns l) c cs b ds =
    let n : suc b + size l ≡ b + suc (size l) = omega arith in
    handlers_laid l c cs (suc b) ds ∙ ap (λ m. handlers (place_of c) (suc b) l ++ handlers_in (c ∷ cs) m ds) n
handlers_laid (inner k a l) c cs b ds =
    let closing : Draught = close_of k.reception k.caught in
    let o : Open = opened (b + front k) (items_in a) (size a) in
    let after : ℕ = b + (front k + (size a + reception_size k.reception)) in
    let p : b + front k + size a + reception_size k.reception ≡ after = omega arith in
    let q : after + size l ≡ b + size (inner k a l) = omega arith in
    let part : List Handler = handlers (λ n. b + front k + entry n a) (b + front k) a in
    let mine : List Handler = handler (place_of c) (b + front k) (b + front k + size a) k.caught in
    ap (λ x. handlers_in (x ∷ c ∷ cs) (b + front k) ((items_in a ++ closing ∷ items_in l) ++ ds)) (part_opened k a l ds b)
    ∙ ap (λ ts. handlers_in (o ∷ c ∷ cs) (b + front k) ts) (append_assoc (items_in a) (closing ∷ items_in l) ds)
    ∙ handlers_laid a o (c ∷ cs) (b + front k) (closing ∷ (items_in l ++ ds))
    ∙ ap (λ hs. hs ++ handlers_in (o ∷ c ∷ cs) (b + front k + size a) (closing ∷ (items_in l ++ ds))) (handlers_same (place_of o) (λ n. b + front k + entry n a) (places_are a (b + front k)) (b + front k) a)
    ∙ ap (λ n. part ++ (mine ++ handlers_in (c ∷ cs) n (items_in l ++ ds))) p
    ∙ ap (λ hs. part ++ (mine ++ hs)) (handlers_laid l c cs after ds)
    ∙ ap (λ n. part ++ (mine ++ (handlers (place_of c) after l ++ handlers_in (c ∷ cs) n ds))) q
    ∙ ap (λ hs. part ++ hs) (sym (append_assoc mine (handlers (place_of c) after l) (handlers_in (c ∷ cs) (b + size (inner k a l)) ds)))
    ∙ sym (append_assoc part (mine ++ handlers (place_of c) after l) (handlers_in (c ∷ cs) (b + size (inner k a l)) ds))
handlers_laid (gap l) c cs b ds = handlers_laid l c cs b ds

-- the whole
abbrev pub whole : Layout → Open
whole l = opened 0 (items_in l) (size l)

zero_places : (l : Layout) (n : ℕ) → place_of (whole l) n ≡ 0 + entry n l
zero_places l n = places_are l 0 n

pub code_whole : (l : Layout) → code_in (whole l ∷ []) 0 (items_in l) ≡ code_from 0 l
code_whole l =
    ap (code_in (whole l ∷ []) 0) (sym (append-nil (items_in l))) ∙ code_laid l (whole l) [] 0 [] ∙ append-nil (assembled (place_of (whole l)) 0 l)
    ∙ assembled_same (place_of (whole l)) (λ n. 0 + entry n l) (zero_places l) 0 l

pub handlers_whole : (l : Layout) → handlers_in (whole l ∷ []) 0 (items_in l) ≡ handlers_from 0 l
handlers_whole l =
    ap (handlers_in (whole l ∷ []) 0) (sym (append-nil (items_in l))) ∙ handlers_laid l (whole l) [] 0 [] ∙ append-nil (handlers (place_of (whole l)) 0 l)
    ∙ handlers_same (place_of (whole l)) (λ n. 0 + entry n l) (zero_places l) 0 l

pub drafted : (l : Layout) → (over l ([], 0)).0 ≡ items_in l
drafted l = items_over l ([], 0) ∙ append-nil (items_in l)

pub assembles_code : AssemblesCode
assembles_code p = ap (λ ds. code_in (opened 0 ds (size (whole_layout p)) ∷ []) 0 ds) (drafted (whole_layout p)) ∙ code_whole (whole_layout p)

pub assembles_handlers : AssemblesHandlers
assembles_handlers p = ap (λ ds. handlers_in (opened 0 ds (size (whole_layout p)) ∷ []) 0 ds) (drafted (whole_layout p)) ∙ handlers_whole (whole_layout p)
