-- A program's draft is steady: in each construct the operations of a scattering assignment have one plan.
use Rattle.std.proofs.Common.{◌≡◌, ℕ, suc, ◌+◌, List, [], ◌∷◌, ◌++◌, drop, refl, sym, ap, subst, ◌∙◌, append_assoc, arith}
use Rattle.std.specs.Prelude.{Option, Some, None, true}
use Rattle.std.proofs.lemmas.List.{append-nil}
use Rattle.spec_program.specs.Tree.{Program}
use Rattle.moo_code.specs.Instruction as code
use Rattle.moo_code.specs.Instruction.{Operation, scatter_on, placed}
use Rattle.moo_code.specs.Layout.{Layout, stop, own, inner, gap, front, reception_size, size, outermost, whole_layout}
use Rattle.moo_program.specs.Drafting.{Draught, close_of, count}
use Rattle.moo_program.specs.Drafted.{IsDraft}
use Rattle.moo_program.specs.Assembling.{Open, place_of, opened}
use Rattle.moo_program.specs.Scattering.{Plan, plan_in, Agrees, learned, Steady}
use Rattle.moo_program.proofs.Assembled.{items_in, part_opened, whole, drafted}
use Rattle.moo_program.proofs.OnePlan.{Shared, IsOf, HasOne, program_one}

abbrev plan : Shared → (ℕ → ℕ) → Plan
plan p to = (p.0, placed to p.1, true)

-- if one is known, it is this one
abbrev IsKnown : Plan → Option Plan → Type 0
IsKnown q None = Unit {0}
IsKnown q (Some p) = p ≡ q

one_less : (to : ℕ → ℕ) (ns : List ℕ) → drop 1 (placed to ns) ≡ placed to (drop 1 ns)
one_less to [] = refl
one_less to (n ∷ ns) = refl

fits : (p : Shared) (to : ℕ → ℕ) (op : Operation) (ns : List ℕ) → IsOf p op ns → IsKnown (plan p to) (plan_in op (placed to ns))
fits p to (code.scatter xs) ns h = ap (λ ys. (ys, placed to ns, true)) h.0 ∙ ap (λ ms. (p.0, placed to ms, true)) h.1
fits p to (scatter_on xs n) ns h =
    ap (λ ys. (ys, drop 1 (placed to ns), true)) h.0 ∙ ap (λ ps. (p.0, ps, true)) (one_less to ns ∙ ap (placed to) h.1)
fits p to op ns h = tt

agree : (q : Plan) (k o : Option Plan) → IsKnown q k → IsKnown q o → Agrees k o
agree q None o e f = tt
agree q (Some p) None e f = tt
agree q (Some p) (Some r) e f = e ∙ sym f

learn : (q : Plan) (k o : Option Plan) → IsKnown q k → IsKnown q o → IsKnown q (learned k o)
learn q k None e f = e
learn q k (Some r) e f = f

laid : (l : Layout) (p : Shared) → HasOne p l → (c : Open) (cs : List Open) (k : Option Plan) (ks : List (Option Plan)) (b : ℕ) (ds : List Draught)
    → IsKnown (plan p (place_of c)) k → ((j : Option Plan) → IsKnown (plan p (place_of c)) j → Steady (c ∷ cs) (j ∷ ks) (b + size l) ds)
    → Steady (c ∷ cs) (k ∷ ks) b (items_in l ++ ds)
laid stop p h c cs k ks b ds e more =
    let n : b + size stop ≡ b = omega arith in
    subst (λ n. Steady (c ∷ cs) (k ∷ ks) n ds) n (more k e)
laid (own op ns l) p h c cs k ks b ds e more =
    let o : Option Plan = plan_in op (placed (place_of c) ns) in
    let f : IsKnown (plan p (place_of c)) o = fits p (place_of c) op ns h.0 in
    let n : b + size (own op ns l) ≡ suc b + size l = omega arith in (
      agree (plan p (place_of c)) k o e f,
      laid l p h.1 c cs (learned k o) ks (suc b) ds (learn (plan p (place_of c)) k o e f) (λ j g. subst (λ n. Steady (c ∷ cs) (j ∷ ks) n ds) n (more j g)),
    )
laid (inner i a l) p h c cs k ks b ds e more =
    let closing : Draught = close_of i.reception i.caught in
    let at : ℕ = b + front i in
    let o : Open = opened at (items_in a) (size a) in
    let after : ℕ = at + size a + reception_size i.reception in
    let n : b + size (inner i a l) ≡ after + size l = omega arith in
    let rest : Steady (c ∷ cs) (k ∷ ks) after (items_in l ++ ds) =
    laid l p h.1 c cs k ks after ds e (λ j g. subst (λ n. Steady (c ∷ cs) (j ∷ ks) n ds) n (more j g)) in
    let inside : Steady (o ∷ c ∷ cs) (None ∷ k ∷ ks) at (items_in a ++ closing ∷ (items_in l ++ ds)) =
    laid a h.0.0 h.0.1 o (c ∷ cs) None (k ∷ ks) at (closing ∷ (items_in l ++ ds)) tt (λ j g. rest) in
    let joined : Steady (o ∷ c ∷ cs) (None ∷ k ∷ ks) at ((items_in a ++ closing ∷ items_in l) ++ ds) =
    subst (Steady (o ∷ c ∷ cs) (None ∷ k ∷ ks) at) (sym (append_assoc (items_in a) (closing ∷ items_in l) ds)) inside in
    subst (λ x. Steady (x ∷ c ∷ cs) (None ∷ k ∷ ks) at ((items_in a ++ closing ∷ items_in l) ++ ds)) (sym (part_opened i a l ds b)) joined
laid (gap l) p h c cs k ks b ds e more = laid l p h c cs k ks b ds e more

whole_steady : (l : Layout) (p : Shared) → HasOne p l → Steady (whole l ∷ []) (None ∷ []) 0 (items_in l)
whole_steady l p h =
    subst (Steady (whole l ∷ []) (None ∷ []) 0) (append-nil (items_in l)) (laid l p h (whole l) [] None [] 0 [] tt (λ j g. tt))

pub is_steady : (p : Program) (ds : List Draught) (n : ℕ) → IsDraft p ds n → Steady (opened 0 ds n ∷ []) (None ∷ []) 0 ds
is_steady p ds n d =
    let l : Layout = whole_layout p in
    let e : ds ≡ items_in l = d.items ∙ drafted l in
    subst (λ xs. Steady (opened 0 xs n ∷ []) (None ∷ []) 0 xs) (sym e)
    (subst (λ m. Steady (opened 0 (items_in l) m ∷ []) (None ∷ []) 0 (items_in l)) (sym d.count)
    (whole_steady l ([], []) (program_one ([], []) outermost p)))
