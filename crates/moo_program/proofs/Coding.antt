-- More trees and more codes.
use Rattle.std.proofs.Common.{◌≡◌, ◌≤◌, ◌<◌, ℕ, zero, suc, ◌+◌, List, [], ◌∷◌, ◌++◌, length, map, true, get_or, refl, ap, sym, subst, ◌∙◌, arith, length-append, Option, Some}
use Rattle.std.specs.Prelude.{slice_get}
use Rattle.std.proofs.lemmas.List.{get_or_append_left}
use Rattle.std.proofs.lemmas.Option.{slice_get-get_or, slice_get_within, get_or_from_slice_get}
use Rattle.spec_program.specs.Tree.{Program, the_end}
use Rattle.std.specs.List.{list_all}
use Rattle.spec_value.specs.Datum.{Text}
use Rattle.moo_code.specs.Layout.{code_of, handlers_of}
use Rattle.moo_code.specs.Names.{names_of}
use Rattle.moo_program.specs.Gathering.{forks_in}
use Rattle.moo_program.specs.Meaning.{meant, handler_meant, body_at}
use Rattle.moo_program.specs.Names.{known}
use Rattle.moo_program.specs.Outline.{outline_of}
use Rattle.moo_program.specs.Within.{slots_in, handler_slots_in}
use Rattle.moo_program.specs.declared.instruction.Instruction.{Instruction}
use Rattle.moo_program.specs.declared.instruction.Handler.{Handler}
use Rattle.moo_program.specs.declared.outline.Step.{Step}
use Rattle.moo_program.specs.Compiled.{IsCode, HasBodies, IsCoded, AllCoded, AreCoded, IsWhole, IsProgram, tree_at}
use Rattle.moo_program.specs.declared.compiled.Compiled.{Compiled}
use Rattle.moo_program.specs.declared.compiled.Coded.{Coded}

got_left : {X : Type 0} (xs ys : List X) (k : ℕ) (x : X) → slice_get xs k ≡ Some x → slice_get (xs ++ ys) k ≡ Some x
got_left [] ys k x e = absurd (cc)
got_left (y ∷ xs) ys zero x e = e
got_left (y ∷ xs) ys (suc k) x e = got_left xs ys k x e

got_right : {X : Type 0} (xs ys : List X) (k : ℕ) (x : X) → slice_get ys k ≡ Some x → slice_get (xs ++ ys) (length xs + k) ≡ Some x
got_right [] ys k x e = let d : 0 + k ≡ k = omega arith in ap (slice_get ys) d ∙ e
got_right (y ∷ xs) ys k x e =
    let d : suc (length xs) + k ≡ suc (length xs + k) = omega arith in
    ap (slice_get (y ∷ (xs ++ ys))) d ∙ got_right xs ys k x e

bodies_stay : (ts more : List Program) (p : Program) (c : Coded) → HasBodies ts p c → HasBodies (ts ++ more) p c
bodies_stay ts more p c h k q e = got_left ts more (c.bodies + k) q (h k q e)

coded_stays : (ts more : List Program) (ps : List Program) (cs : List Coded) → AllCoded ts ps cs → AllCoded (ts ++ more) (ps ++ more) cs
coded_stays ts more ps [] h = tt
coded_stays ts more [] (c ∷ cs) h = absurd h
coded_stays ts more (p ∷ ps) (c ∷ cs) h = (record { code = h.0.code; forks = h.0.forks; bodies = bodies_stay ts more p c h.0.bodies }, coded_stays ts more ps cs h.1)

coded_next : (ts ps : List Program) (cs : List Coded) (c : Coded) (p : Program) → AllCoded ts ps cs → slice_get ps (length cs) ≡ Some p → IsCoded ts p c → AllCoded ts ps (cs ++ c ∷ [])
coded_next ts [] [] c p h e new = absurd (cc)
coded_next ts (q ∷ ps) [] c p h e new = (let d : p ≡ q = cc in subst (λ z. IsCoded ts z c) d new, tt)
coded_next ts [] (d ∷ cs) c p h e new = absurd h
coded_next ts (q ∷ ps) (d ∷ cs) c p h e new = (h.0, coded_next ts ps cs c p h.1 e new)

coded_within : (ts ps : List Program) (cs : List Coded) → AllCoded ts ps cs → length cs ≤ length ps
coded_within ts ps [] h = omega arith
coded_within ts [] (c ∷ cs) h = absurd h
coded_within ts (p ∷ ps) (c ∷ cs) h = omega (arith, coded_within ts ps cs h.1)

coded_at : (ts ps : List Program) (cs : List Coded) (i : ℕ) (c : Coded) → AllCoded ts ps cs → slice_get cs i ≡ Some c → IsCoded ts (get_or ps i the_end) c
coded_at ts ps [] i c h e = absurd (cc)
coded_at ts [] (d ∷ cs) i c h e = absurd h
coded_at ts (p ∷ ps) (d ∷ cs) zero c h e = let same : d ≡ c = cc in subst (λ z. IsCoded ts p z) same h.0
coded_at ts (p ∷ ps) (d ∷ cs) (suc i) c h e = coded_at ts ps cs i c h.1 e

-- a tree gets its code, and the bodies of its forks come behind all
pub more_coded : (ts us bodies : List Program) (cs ds : List Coded) (c : Coded) (p : Program) (n : ℕ) → us ≡ ts ++ bodies → ds ≡ cs ++ c ∷ [] → AllCoded ts ts cs → IsCode p c.code
    → bodies ≡ forks_in (code_of p) → p ≡ get_or ts n p → n ≡ length cs → length cs < length ts → c.bodies ≡ length ts → c.forks ≡ length bodies → AllCoded us us ds
more_coded ts us bodies cs ds c p n put_trees put_codes h code forks is last less at count =
    let all = ts ++ bodies in
    let has : HasBodies all p c =
    λ k q e. ap (λ n. slice_get all (n + k)) at ∙ got_right ts bodies k q (ap (λ fs. slice_get fs k) forks ∙ e) in
    let stays : AllCoded all all cs = coded_stays ts bodies ts cs h in
    let there : slice_get ts (length cs) ≡ Some p =
    ap (slice_get ts) (sym last) ∙ slice_get-get_or ts n p (omega (arith, last, less)) ∙ ap Some (sym is) in
    let found : slice_get all (length cs) ≡ Some p = got_left ts bodies (length cs) p there in
    subst (λ us. AllCoded us us ds) (sym put_trees)
    (subst (λ ds. AllCoded all all ds) (sym put_codes) (coded_next all all cs c p stays found (record { code = code; forks = count ∙ ap length forks; bodies = has })))

pub first_stays : (ts more new : List Program) (n : ℕ) → n < length ts → new ≡ ts ++ more → get_or new 0 the_end ≡ get_or ts 0 the_end
first_stays ts more new n some put = ap (λ us. get_or us 0 the_end) put ∙ get_or_append_left ts more the_end 0 (omega (arith, some))

pub some_stay : (ts more new : List Program) (n : ℕ) → n < length ts → new ≡ ts ++ more → 0 < length new
some_stay ts more new n some put = omega (arith, some, ap length put, length-append ts more)

pub is_whole : (c : Compiled) → AreCoded c → length c.trees.items ≤ length c.codes.items → 0 < length c.trees.items → IsWhole c
is_whole c h done some = record { coded = h; all = omega (arith, done, coded_within c.trees.items c.trees.items c.codes.items h); some = some }

pub none_coded : (c : Compiled) → c.codes.items ≡ [] → AreCoded c
none_coded c e = subst (λ cs. AllCoded c.trees.items c.trees.items cs) (sym e) tt

-- ---- one of them

pub place_coded : (a : Compiled) (n : ℕ) → IsProgram a n → n < length a.codes.items
place_coded a n h = omega (arith, h.inside, h.whole.all)

found_at : (a : Compiled) (n : ℕ) (c : Coded) → IsProgram a n → c ≡ get_or a.codes.items n c → IsCoded a.trees.items (tree_at a n) c
found_at a n c h is =
    coded_at a.trees.items a.trees.items a.codes.items n c h.whole.coded (slice_get-get_or a.codes.items n c (place_coded a n h) ∙ ap Some (sym is))

pub names_at : (a : Compiled) (n : ℕ) (c : Coded) (xs : List Text) → IsProgram a n → c ≡ get_or a.codes.items n c → xs ≡ c.code.names.items → known xs ≡ names_of (tree_at a n)
names_at a n c xs h is e = ap known e ∙ (found_at a n c h is).code.names

pub code_at : (a : Compiled) (n : ℕ) (c : Coded) (xs : List Instruction) → IsProgram a n → c ≡ get_or a.codes.items n c → xs ≡ c.code.assembled.code.items
    → map (meant (names_of (tree_at a n)) (forks_in (code_of (tree_at a n)))) xs ≡ code_of (tree_at a n)
code_at a n c xs h is e = ap (map (meant (names_of (tree_at a n)) (forks_in (code_of (tree_at a n))))) e ∙ (found_at a n c h is).code.code

pub slots_at : (a : Compiled) (n : ℕ) (c : Coded) (xs : List Instruction) → IsProgram a n → c ≡ get_or a.codes.items n c → xs ≡ c.code.assembled.code.items
    → list_all (slots_in (length (names_of (tree_at a n)))) xs ≡ true
slots_at a n c xs h is e = ap (list_all (slots_in (length (names_of (tree_at a n))))) e ∙ (found_at a n c h is).code.slots

pub handlers_at : (a : Compiled) (n : ℕ) (c : Coded) (xs : List Handler) → IsProgram a n → c ≡ get_or a.codes.items n c → xs ≡ c.code.assembled.handlers.items
    → map (handler_meant (names_of (tree_at a n))) xs ≡ handlers_of (tree_at a n)
handlers_at a n c xs h is e = ap (map (handler_meant (names_of (tree_at a n)))) e ∙ (found_at a n c h is).code.handlers

pub handled_at : (a : Compiled) (n : ℕ) (c : Coded) (xs : List Handler) → IsProgram a n → c ≡ get_or a.codes.items n c → xs ≡ c.code.assembled.handlers.items
    → list_all (handler_slots_in (length (names_of (tree_at a n)))) xs ≡ true
handled_at a n c xs h is e = ap (list_all (handler_slots_in (length (names_of (tree_at a n))))) e ∙ (found_at a n c h is).code.handled

pub outline_at : (a : Compiled) (n : ℕ) (c : Coded) (xs : List Step) → IsProgram a n → c ≡ get_or a.codes.items n c → xs ≡ c.code.outline.items → xs ≡ outline_of (tree_at a n)
outline_at a n c xs h is e = e ∙ (found_at a n c h is).code.outline

-- the body of a fork is one of them
body_found : (a : Compiled) (n : ℕ) (c : Coded) (k m : ℕ) → IsProgram a n → c ≡ get_or a.codes.items n c → k < c.forks → m ≡ c.bodies + k
    → slice_get a.trees.items m ≡ Some (body_at (forks_in (code_of (tree_at a n))) k)
body_found a n c k m h is less at =
    let found = found_at a n c h is in
    let fs = forks_in (code_of (tree_at a n)) in
    ap (slice_get a.trees.items) at ∙ found.bodies k (body_at fs k) (slice_get-get_or fs k the_end (omega (arith, less, found.forks)))

pub body_view : (a : Compiled) (n : ℕ) (c : Coded) (k m : ℕ) → IsProgram a n → c ≡ get_or a.codes.items n c → k < c.forks → m ≡ c.bodies + k
    → tree_at a m ≡ body_at (forks_in (code_of (tree_at a n))) k
body_view a n c k m h is less at =
    get_or_from_slice_get a.trees.items m (body_at (forks_in (code_of (tree_at a n))) k) the_end (body_found a n c k m h is less at)

pub body_whole : (a : Compiled) (n : ℕ) (c : Coded) (k m : ℕ) → IsProgram a n → c ≡ get_or a.codes.items n c → k < c.forks → m ≡ c.bodies + k → IsProgram a m
body_whole a n c k m h is less at =
    record { whole = h.whole; inside = slice_get_within a.trees.items m (body_at (forks_in (code_of (tree_at a n))) k) (body_found a n c k m h is less at) }
