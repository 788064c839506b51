-- What is known of the scattering assignments of constructs under way, from one item to the next.
use Rattle.std.proofs.Common.{◌≡◌, ℕ, suc, ◌+◌, ◌-◌, ◌<◌, ◌&&◌, List, [], ◌∷◌, ◌++◌, Bool, true, Option, None, drop, map, length, get_or, refl, ap, sym, subst, ◌∙◌}
use Rattle.std.specs.Prelude.{take, min}
use Rattle.std.specs.List.{list_all}
use Rattle.std.proofs.lemmas.List.{take_rest}
use Rattle.std.proofs.lemmas.List.Folds.{list_all-append}
use Rattle.moo_code.specs.Instruction.{Operation, placed}
use Rattle.moo_code.specs.Layout.{Reception, Caught}
use Rattle.moo_program.specs.Drafting.{Draught, own_of, part_of, close_of, item_of}
use Rattle.moo_program.specs.Assembling.{place_of, opened, innermost}
use Rattle.moo_program.specs.Names.{known}
use Rattle.moo_program.specs.Scattering.{Plan, plan_in, learned, first_plan, outer_plans, Steady, plans_of, IsSteady, all_in}
use Rattle.moo_program.specs.Walking.{Walk, with_own, with_part, with_close, start_of}
use Rattle.moo_program.specs.Within.{slots_in}
use Rattle.moo_program.specs.declared.assembly.Assembly.{Assembly}
use Rattle.moo_program.specs.declared.instruction.Instruction.{Instruction}
use Rattle.moo_program.specs.declared.moo_bytecode.draft.Item.{Item}
use Rattle.moo_program.specs.declared.tables.Tables.{Tables}
use Rattle.moo_program.proofs.Lists.{item_next}
use Rattle.moo_program.proofs.Walked.{taken}

-- ---- an instruction is put

pub plans_put : (t : Tables) (mid new : Assembly) (ps : List (Option Plan)) → plans_of t mid ≡ ps → new.here ≡ mid.here → new.around ≡ mid.around → plans_of t new ≡ ps
plans_put t mid new ps e here around =
    ap (λ h. plans_of t (record new { here = h })) here ∙ ap (λ a. plans_of t (record new { here = mid.here; around = a })) around ∙ e

both : (a b : Bool) → a ≡ true → b ≡ true → (a && b) ≡ true
both a b e f = ap (λ a. a && b) e ∙ f

pub one_within : (n : ℕ) (is more : List Instruction) (i : Instruction) → more ≡ is ++ i ∷ [] → slots_in n i ≡ true → list_all (slots_in n) is ≡ true → list_all (slots_in n) more ≡ true
one_within n is more i put one before =
    ap (list_all (slots_in n)) put ∙ list_all-append (slots_in n) is (i ∷ []) ∙ both (list_all (slots_in n) is) (slots_in n i && true) before (both (slots_in n i) true one refl)

pub put_within : (t : Tables) (old mid new : Assembly) (i : Instruction) → mid.assembled ≡ old.assembled → new.assembled.code.items ≡ mid.assembled.code.items ++ i ∷ []
    → slots_in (length (known t.names)) i ≡ true → all_in t old ≡ true → all_in t new ≡ true
put_within t old mid new i same put one before =
    one_within (length (known t.names)) old.assembled.code.items new.assembled.code.items i (put ∙ ap (λ a. a.code.items ++ i ∷ []) same) one before

-- ---- past an item

pub own_steady : (w : Walk) (ps : List (Option Plan)) (op : Operation) (ns : List ℕ) (ds : List Draught) (v : Walk) (qs : List (Option Plan)) → v ≡ with_own op ns w
    → qs ≡ learned (first_plan ps) (plan_in op (placed (place_of (innermost w.opens)) ns)) ∷ outer_plans ps → Steady w.opens ps w.place (own_of op ns ∷ ds)
    → Steady v.opens qs v.place ds
own_steady w ps op ns ds v qs e f h = subst (λ (v : Walk). Steady v.opens qs v.place ds) (sym e) (subst (λ qs. Steady w.opens qs (suc w.place) ds) (sym f) h.1)

pub part_steady : (w : Walk) (ps : List (Option Plan)) (o : Bool) (n m k : ℕ) (after : List Item) (v : Walk) (qs : List (Option Plan)) → k ≡ min n (length after)
    → v ≡ with_part o m (map item_of (take k after)) w → qs ≡ None ∷ ps → Steady w.opens ps w.place (part_of o n m ∷ map item_of after) → Steady v.opens qs v.place (map item_of after)
part_steady w ps o n m k after v qs count e f h =
    subst (λ (v : Walk). Steady v.opens qs v.place (map item_of after)) (sym (e ∙ ap (λ ds. with_part o m ds w) (taken n k after count)))
    (subst (λ qs. Steady (with_part o m (take n (map item_of after)) w).opens qs (with_part o m (take n (map item_of after)) w).place (map item_of after)) (sym f) h)

pub close_steady : (w : Walk) (ps : List (Option Plan)) (r : Reception) (c : Option Caught) (ds : List Draught) (v : Walk) (qs : List (Option Plan)) → v ≡ with_close r c w
    → qs ≡ outer_plans ps → Steady w.opens ps w.place (close_of r c ∷ ds) → Steady v.opens qs v.place ds
close_steady w ps r c ds v qs e f h =
    subst (λ (v : Walk). Steady v.opens qs v.place ds) (sym e) (subst (λ qs. Steady (with_close r c w).opens qs (with_close r c w).place ds) (sym f) h)

-- of an item that is this one
pub steady_at : (t : Tables) (a : Assembly) (x y : Item) (ds : List Draught) → x ≡ y → IsSteady t a (item_of x ∷ ds) → IsSteady t a (item_of y ∷ ds)
steady_at t a x y ds e h = subst (λ z. IsSteady t a (item_of z ∷ ds)) e h

-- ---- the whole

pub starts_steady : (w : Walk) (ps : List (Option Plan)) (ds : List Draught) (n : ℕ) → w ≡ start_of ds n → ps ≡ None ∷ [] → Steady (opened 0 ds n ∷ []) (None ∷ []) 0 ds
    → Steady w.opens ps w.place ds
starts_steady w ps ds n e f h = subst (λ (w : Walk). Steady w.opens ps w.place ds) (sym e) (subst (λ ps. Steady (opened 0 ds n ∷ []) ps 0 ds) (sym f) h)

pub next_steady : (t : Tables) (a : Assembly) (items : List Item) (i : ℕ) (x : Item) → i < length items → x ≡ get_or items i x → IsSteady t a (map item_of (drop i items))
    → IsSteady t a (item_of x ∷ map item_of (take (length items - (i + 1)) (drop (i + 1) items)))
next_steady t a items i x h is s =
    subst (λ xs. IsSteady t a (item_of x ∷ map item_of xs)) (sym (take_rest items (i + 1))) (subst (λ xs. IsSteady t a (map item_of xs)) (item_next items i x h is) s)

pub rest_steady : (t : Tables) (a : Assembly) (items : List Item) (i : ℕ) → IsSteady t a (map item_of (take (length items - (i + 1)) (drop (i + 1) items)))
    → IsSteady t a (map item_of (drop (i + 1) items))
rest_steady t a items i s = subst (λ xs. IsSteady t a (map item_of xs)) (take_rest items (i + 1)) s
