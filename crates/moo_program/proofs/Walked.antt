-- Each item adds what the code of a draft begins with.
use Rattle.std.proofs.Common.{◌≡◌, ℕ, suc, ◌+◌, ◌-◌, ◌<◌, ◌≤◌, List, [], ◌∷◌, ◌++◌, Bool, Option, Some, None, drop, map, length, reverse, get_or, refl, ap, sym, subst, ◌∙◌, arith}
use Rattle.std.specs.Prelude.{take, min}
use Rattle.std.proofs.lemmas.List.{append_assoc, append-nil, reverse-append, take_min, take-map, take_rest, drop_all}
use Rattle.moo_code.specs.Instruction.{Operation, Instruction, perform, placed, Handler}
use Rattle.moo_code.specs.Layout.{Reception, Caught, receiving, reception_size, handler}
use Rattle.moo_program.specs.Drafting.{Draught, own_of, part_of, close_of, gap_of, opening_size, item_of}
use Rattle.moo_program.specs.Assembling as assembling
use Rattle.moo_program.specs.Assembling.{place_of, opened, innermost, outer, opening_code, code_in, handlers_in}
use Rattle.moo_program.specs.declared.moo_bytecode.draft.Item.{Item}
use Rattle.moo_program.proofs.Lists.{item_next, map_last}
use Rattle.moo_program.specs.Opens.{open_of}
use Rattle.moo_program.specs.Tables.{meant_in, handler_in}
use Rattle.moo_program.specs.Walking.{Walk, walk_of, with_own, with_part, with_close, start_of, all_code, all_handlers, Adds}
use Rattle.moo_program.specs.declared.assembly.Assembly.{Assembly}
use Rattle.moo_program.specs.declared.open.Open.{Open}
use Rattle.moo_program.specs.declared.instruction.Instruction.{Instruction as Made}
use Rattle.moo_program.specs.declared.instruction.Handler.{Handler as Catcher}
use Rattle.moo_program.specs.declared.tables.Tables.{Tables}

own_in : (op : Operation) (ns : List ℕ) (w : Walk) (ds : List Draught) → Adds w (own_of op ns) ds (with_own op ns w)
unfolding all_code all_handlers
own_in op ns w ds = record { code = append_assoc w.code (perform op (placed (place_of (innermost w.opens)) ns) ∷ []) (code_in w.opens (suc w.place) ds); handlers = refl }

part_in : (o : Bool) (n m : ℕ) (w : Walk) (ds : List Draught) → Adds w (part_of o n m) ds (with_part o m (take n ds) w)
unfolding all_code all_handlers
part_in o n m w ds =
    record {
      code = append_assoc w.code (opening_code o) (code_in (opened (w.place + opening_size o) (take n ds) m ∷ w.opens) (w.place + opening_size o) ds);
      handlers = refl;
    }

close_in : (r : Reception) (c : Option Caught) (w : Walk) (ds : List Draught) → Adds w (close_of r c) ds (with_close r c w)
unfolding all_code all_handlers
close_in r c w ds =
    record {
      code = append_assoc w.code (receiving (innermost (outer w.opens)).end r) (code_in (outer w.opens) (w.place + reception_size r) ds);
      handlers =
          append_assoc w.handlers (handler (place_of (innermost (outer w.opens))) (innermost w.opens).first w.place c)
          (handlers_in (outer w.opens) (w.place + reception_size r) ds);
    }

gap_in : (w : Walk) (ds : List Draught) → Adds w gap_of ds w
unfolding all_code all_handlers
gap_in w ds = record { code = refl; handlers = refl }

as_is : (w v u : Walk) (d : Draught) (ds : List Draught) → v ≡ u → Adds w d ds u → Adds w d ds v
as_is w v u d ds e a = record { code = ap (λ v. all_code v ds) e ∙ a.code; handlers = ap (λ v. all_handlers v ds) e ∙ a.handlers }

pub own_adds : (w : Walk) (op : Operation) (ns : List ℕ) (ds : List Draught) (v : Walk) → v ≡ with_own op ns w → Adds w (own_of op ns) ds v
own_adds w op ns ds v e = as_is w v (with_own op ns w) (own_of op ns) ds e (own_in op ns w ds)

pub close_adds : (w : Walk) (r : Reception) (c : Option Caught) (ds : List Draught) (v : Walk) → v ≡ with_close r c w → Adds w (close_of r c) ds v
close_adds w r c ds v e = as_is w v (with_close r c w) (close_of r c) ds e (close_in r c w ds)

pub gap_adds : (w : Walk) (ds : List Draught) → Adds w gap_of ds w
gap_adds w ds = gap_in w ds

-- of a part as many items as there are
pub taken : (n k : ℕ) (after : List Item) → k ≡ min n (length after) → map item_of (take k after) ≡ take n (map item_of after)
taken n k after count = ap (map item_of) (ap (λ k. take k after) count ∙ take_min n after) ∙ sym (take-map item_of n after)

pub part_adds : (w : Walk) (o : Bool) (n m k : ℕ) (after : List Item) (v : Walk) → k ≡ min n (length after)
    → v ≡ with_part o m (map item_of (take k after)) w → Adds w (part_of o n m) (map item_of after) v
part_adds w o n m k after v count e =
    as_is w v (with_part o m (take n (map item_of after)) w) (part_of o n m) (map item_of after) (e ∙ ap (λ ds. with_part o m ds w) (taken n k after count))
    (part_in o n m w (map item_of after))

pub at_item : (w : Walk) (x y : Item) (ds : List Draught) (v : Walk) → x ≡ y → Adds w (item_of y) ds v → Adds w (item_of x) ds v
at_item w x y ds v e a = subst (λ z. Adds w (item_of z) ds v) (sym e) a

-- past an item, with all of those that come after it
pub code_next : (w v : Walk) (items : List Item) (i : ℕ) (x : Item) → i < length items → x ≡ get_or items i x
    → Adds w (item_of x) (map item_of (take (length items - (i + 1)) (drop (i + 1) items))) v → all_code v (map item_of (drop (i + 1) items)) ≡ all_code w (map item_of (drop i items))
code_next w v items i x h is a =
    let t = take_rest items (i + 1) in
    ap (λ xs. all_code v (map item_of xs)) (sym t) ∙ a.code ∙ ap (λ xs. all_code w (item_of x ∷ map item_of xs)) t
    ∙ ap (λ xs. all_code w (map item_of xs)) (sym (item_next items i x h is))

pub handlers_next : (w v : Walk) (items : List Item) (i : ℕ) (x : Item) → i < length items → x ≡ get_or items i x
    → Adds w (item_of x) (map item_of (take (length items - (i + 1)) (drop (i + 1) items))) v
    → all_handlers v (map item_of (drop (i + 1) items)) ≡ all_handlers w (map item_of (drop i items))
handlers_next w v items i x h is a =
    let t = take_rest items (i + 1) in
    ap (λ xs. all_handlers v (map item_of xs)) (sym t) ∙ a.handlers ∙ ap (λ xs. all_handlers w (item_of x ∷ map item_of xs)) t
    ∙ ap (λ xs. all_handlers w (map item_of xs)) (sym (item_next items i x h is))

-- ---- the whole

pub starts_all : (w : Walk) (ds : List Draught) (n : ℕ) → w ≡ start_of ds n → all_code w ds ≡ code_in (opened 0 ds n ∷ []) 0 ds
unfolding all_code
starts_all w ds n e = ap (λ w. all_code w ds) e

pub starts_handlers : (w : Walk) (ds : List Draught) (n : ℕ) → w ≡ start_of ds n → all_handlers w ds ≡ handlers_in (opened 0 ds n ∷ []) 0 ds
unfolding all_handlers
starts_handlers w ds n e = ap (λ w. all_handlers w ds) e

pub ends_all : (w : Walk) (items : List Item) (i : ℕ) (all : List Instruction) → length items ≤ i → all_code w (map item_of (drop i items)) ≡ all → w.code ≡ all
unfolding all_code
ends_all w items i all h e = sym (ap (λ xs. all_code w (map item_of xs)) (drop_all i items h) ∙ append-nil w.code) ∙ e

pub ends_handlers : (w : Walk) (items : List Item) (i : ℕ) (all : List Handler) → length items ≤ i → all_handlers w (map item_of (drop i items)) ≡ all → w.handlers ≡ all
unfolding all_handlers
ends_handlers w items i all h e = sym (ap (λ xs. all_handlers w (map item_of xs)) (drop_all i items h) ∙ append-nil w.handlers) ∙ e

-- ---- a part that has ended

abbrev walk : List Instruction → List Handler → List assembling.Open → ℕ → Walk
walk c h o n = record { code = c; handlers = h; opens = o; place = n }

walks_same : (c d : List Instruction) (h k : List Handler) (o p : List assembling.Open) (m n : ℕ) → c ≡ d → h ≡ k → o ≡ p → m ≡ n → walk c h o m ≡ walk d k p n
walks_same c d h k o p m n e f g i = ap (λ c. walk c h o m) e ∙ ap (λ h. walk d h o m) f ∙ ap (λ o. walk d k o m) g ∙ ap (λ n. walk d k p n) i

pub popped : {X : Type 0} (f : Open → X) (old new : List Open) (o : Open) → old ≡ new ++ o ∷ [] → map f (reverse old) ≡ f o ∷ map f (reverse new)
popped f old new o e = ap (λ os. map f (reverse os)) e ∙ ap (map f) (reverse-append new (o ∷ []))

pub closed : (t : Tables) (old : Assembly) (is : List Made) (hs : List Catcher) (around : List Open) (to : ℕ) (o : Open) (r : Reception) (c : Option Caught)
    → old.around.items ≡ around ++ o ∷ []
    → map (handler_in t) hs ≡ map (handler_in t) old.assembled.handlers.items ++ handler (place_of (open_of o)) old.here.first old.place c
    → map (meant_in t) is ≡ map (meant_in t) old.assembled.code.items ++ receiving (open_of o).end r → to ≡ old.place + reception_size r
    → walk (map (meant_in t) is) (map (handler_in t) hs) (open_of o ∷ map open_of (reverse around)) to ≡ with_close r c (walk_of t old)
closed t old is hs around to o r c pop caught received place =
    let os : map open_of (reverse old.around.items) ≡ open_of o ∷ map open_of (reverse around) = popped open_of old.around.items around o pop in
    walks_same (map (meant_in t) is) (map (meant_in t) old.assembled.code.items ++ receiving (innermost (map open_of (reverse old.around.items))).end r)
    (map (handler_in t) hs)
    (map (handler_in t) old.assembled.handlers.items ++ handler (place_of (innermost (map open_of (reverse old.around.items)))) old.here.first old.place c)
    (open_of o ∷ map open_of (reverse around)) (map open_of (reverse old.around.items)) to (old.place + reception_size r)
    (received ∙ ap (λ os. map (meant_in t) old.assembled.code.items ++ receiving (innermost os).end r) (sym os))
    (caught ∙ ap (λ os. map (handler_in t) old.assembled.handlers.items ++ handler (place_of (innermost os)) old.here.first old.place c) (sym os))
    (sym os) place

-- ---- an operation

-- the construct under way shows the same
pub same_opened : (t : Tables) (a b : Assembly) → b.assembled ≡ a.assembled → b.around ≡ a.around → b.place ≡ a.place → open_of b.here ≡ open_of a.here → walk_of t b ≡ walk_of t a
same_opened t a b e f g h =
    walks_same (map (meant_in t) b.assembled.code.items) (map (meant_in t) a.assembled.code.items) (map (handler_in t) b.assembled.handlers.items)
    (map (handler_in t) a.assembled.handlers.items) (open_of b.here ∷ map open_of (reverse b.around.items)) (open_of a.here ∷ map open_of (reverse a.around.items)) b.place a.place
    (ap (λ x. map (meant_in t) x.code.items) e) (ap (λ x. map (handler_in t) x.handlers.items) e)
    (ap (λ o. o ∷ map open_of (reverse b.around.items)) h ∙ ap (λ x. open_of a.here ∷ map open_of (reverse x.items)) f) g

-- an instruction is put
pub own_put : (t : Tables) (old mid new : Assembly) (op : Operation) (ns : List ℕ) (i : Made) → walk_of t mid ≡ walk_of t old
    → meant_in t i ≡ perform op (placed (place_of (innermost (walk_of t old).opens)) ns) → new.assembled.code.items ≡ mid.assembled.code.items ++ i ∷ []
    → new.assembled.handlers ≡ mid.assembled.handlers → new.here ≡ mid.here → new.around ≡ mid.around → new.place ≡ suc mid.place → walk_of t new ≡ with_own op ns (walk_of t old)
own_put t old mid new op ns i same meant put handlers here around place =
    let made : Instruction = perform op (placed (place_of (innermost (walk_of t old).opens)) ns) in
    walks_same (map (meant_in t) new.assembled.code.items) (map (meant_in t) mid.assembled.code.items ++ made ∷ []) (map (handler_in t) new.assembled.handlers.items)
    (map (handler_in t) mid.assembled.handlers.items) (open_of new.here ∷ map open_of (reverse new.around.items)) (open_of mid.here ∷ map open_of (reverse mid.around.items))
    new.place (suc mid.place)
    (map_last (meant_in t) mid.assembled.code.items new.assembled.code.items i put ∙ ap (λ m. map (meant_in t) mid.assembled.code.items ++ m ∷ []) meant)
    (ap (λ x. map (handler_in t) x.items) handlers) (ap (λ h. open_of h ∷ map open_of (reverse new.around.items)) here ∙ ap (λ a. open_of mid.here ∷ map open_of (reverse a.items)) around) place
    ∙ ap (λ (w : Walk). walk (w.code ++ made ∷ []) w.handlers w.opens (suc w.place)) same
