-- One instruction does what some turns do: one proof for all constructs.
use Rattle.std.proofs.Common.{◌≡◌, ℕ, zero, suc, ◌+◌, ◌≤◌, ◌<◌, List, [], ◌∷◌, ◌++◌, length, length-append, Bool, true, false, cond, Option, Some, None, refl, sym, ap, ◌∙◌, subst, arith, drop}
use Rattle.std.proofs.lemmas.List.{append-nil}
use Rattle.std.proofs.lemmas.Option.{slice_get_past}
use Rattle.std.specs.Prelude.{ℤ, slice_get, pos}
use Rattle.spec_value.specs.Datum.{Datum, integer, list, no_data, type_mismatch}
use Rattle.spec_value.specs.Table.{Named}
use Rattle.spec_program.specs.Tree.{Expr, Program}
use Rattle.spec_program.specs.Construct.{Construct, of_expr, of_target, of_default, of_statement, of_program, Piece}
use Rattle.spec_program.specs.Place.{Part, parts, part_at, nth, tree_of, held_count, Linked}
use Rattle.spec_moo.specs.Scene.{Scene, with_ticks}
use Rattle.spec_moo.specs.Leaving.{returned, traced, failure}
use Rattle.spec_moo.specs.Held.{Way, beside, way_at, held_at_first, held_with}
use Rattle.spec_moo.specs.Pending.{Focus, begin, hand, aim, operate, next, leave, Pending, out_of_ticks, trace}
use Rattle.spec_moo.specs.Tables.{effect, step_ticks}
use Rattle.spec_moo.specs.Effect.{Effect}
use Rattle.spec_moo.specs.Turn.{ticks_of, piece, value_among, completed, on_tree, on_part, at_point, reach, receiving, turn_on, turn}
use Rattle.spec_moo.specs.Segment.{advance, stopped, runs, stops, led, paying, after}
use Rattle.moo_code.specs.Instruction.{Operation, Unraised, open_list, perform, arity, unraised, placed}
use Rattle.moo_code.specs.Layout.{Around, within, Reception, straight, received, Link, Layout, stop, own, inner, gap, front, reception_size, size, rest, reached, entry, opens, layout, code_of}
use Rattle.moo_code.specs.Performing.{onto, performed}
use Rattle.moo_code.specs.Machine as M
use Rattle.moo_code.specs.Machine.{Kept, Outer, Step, on, halts, seen, place_for, with_operands, handlers_at, charged, out_of, step}
use Rattle.moo_code.specs.Stands.{outcome, part_count, Counted, first_size, operands, around, body, start, target, Begins, Done, HasBegun, Operates, Means, Verb, pending, kept, AllWait, Follows}
use Rattle.moo_code.proofs.Places.{whole_size, entry_is, code_size}
use Rattle.moo_code.proofs.Fits.{Fits, PartFits, Receives, Does, after_count, Sees, Falls, IsInner, AllFit}
use Rattle.moo_code.proofs.Stacks.{onto_append, operands_taken}
use Rattle.moo_code.proofs.Points as points
use Rattle.moo_code.proofs.Points.{start_is, ends_at, operation_there, opening_there, receiving_there, handled_at_operation, handled_at_reception}
use Rattle.moo_code.proofs.Surroundings.{loops_agree, brackets_agree}
use Rattle.moo_code.proofs.Waiting.{same_calls, same_trace, later}
use Rattle.moo_code.proofs.Doing as doing
use Rattle.moo_code.proofs.Doing.{Outs, one_turn, Ended}
use Rattle.moo_code.proofs.Calling as calling
use Rattle.moo_code.proofs.Holding.{first_held_is, first_list, first_none, held_count_after}

nth_drop : (n : ℕ) (ps : List Part) → nth ps n ≡ nth (drop n ps) 0
nth_drop zero ps = refl
nth_drop (suc n) [] = refl
nth_drop (suc n) (p ∷ ps) = nth_drop n ps

rest_next : (n : ℕ) (l : Layout) → rest (suc n) l ≡ rest (suc zero) (rest n l)
rest_next zero l = refl
rest_next (suc n) stop = refl
rest_next (suc n) (own op ns l) = rest_next (suc n) l
rest_next (suc n) (inner k a l) = rest_next n l
rest_next (suc n) (gap l) = rest_next n l

-- what follows a turn follows from before it
pub before : (player : ℤ) (t : ℕ) (s : Scene) (p : Pending) (x : Step) → Follows player (advance t s p) x → Follows player (runs t s p) x
unfolding after
before player t s p x h = later player (runs t s p) (advance t s p) x (1, refl) h

free_turn : (f : Verb) (t : ℕ) (s : Scene) (vars : Named Datum) (g : Focus) (ps : List Piece) (x : Step) → ticks_of g ≡ 0 → Follows f.player (led t (turn_on s (pending f vars g ps) g ps)) x → Follows f.player (advance t s (pending f vars g ps)) x
unfolding turn
free_turn f t s vars g ps x free h = subst (λ k. Follows f.player (paying k t s (pending f vars g ps)) x) (sym free) h

-- a step is paid for before it is taken
paid : (player : ℤ) (k t : ℕ) (s : Scene) (p seen_by : Pending) → trace p ≡ trace seen_by → (go : ℕ → Scene → Step) → ((left : ℕ) (u : Scene) → Follows player (led left (turn u p)) (go left u)) → Follows player (paying k t s p) (charged seen_by k t s go)
unfolding after
paid player zero t s p sb e go h = h t s
paid player (suc k) zero s p sb e go h = record { by = (0, ap (λ z. stops (stopped s (out_of_ticks z) 0)) e) }
paid player (suc k) (suc t) s p sb e go h = h t (with_ticks s t)

module _ (fit : AllFit) (f : Verb) (ks : List Outer) (waiting_are : AllWait f.outer ks) (outs : Outs f ks) where
  abbrev root : Construct
  root = of_program f.whole

  abbrev put : Named Datum → Scene → ℕ → List Datum → ℕ → Step
  put vars s pc st t = on s (kept f vars pc st) ks t

  abbrev Machine : Named Datum → Scene → ℕ → List Datum → ℕ → Step
  Machine vars s pc st t = step f.player s (kept f vars pc st) ks t

  -- after n parts
  record At (c : Construct) (n : ℕ) (vs : List Datum) (ps : List Piece) (pc : ℕ) (st : List Datum) : Type 0 where
    linked : Linked c ps root
    counted : Counted ps
    begun : HasBegun c n
    fits_here : Fits (around ps) c n (length vs) (drop n (parts c)) (rest n (body ps c))
    place : pc ≡ start ps + reached n (body ps c)
    stack : st ≡ onto vs (operands ps)

  -- ---- the machine stands where a point is reached

  completed_now : (c : Construct) (vs : List Datum) (ps : List Piece) (pc : ℕ) (st : List Datum) → Done root c vs ps pc st → (vars : Named Datum) (t : ℕ) (s : Scene)
      → Follows f.player (runs t s (pending f vars (completed c vs) ps)) (put vars s pc st t)
  completed_now (of_expr e) [] ps pc st d vars t s = absurd (omega (arith, d.count))
  completed_now (of_expr e) (v ∷ []) ps pc st d vars t s = doing.now fit f ks waiting_are outs vars t s (hand v) ps pc st (e, d)
  completed_now (of_expr e) (v ∷ u ∷ vs) ps pc st d vars t s = absurd (omega (arith, d.count))
  completed_now (of_target x) vs ps pc st d vars t s = doing.now fit f ks waiting_are outs vars t s (aim vs) ps pc st (x, d)
  completed_now c [] ps pc st d vars t s = doing.now fit f ks waiting_are outs vars t s next ps pc st (c, refl, d)
  completed_now c (v ∷ vs) ps pc st d vars t s = absurd (omega (arith, d.count))

  part_begins : (c : Construct) (n : ℕ) (vs : List Datum) (ps : List Piece) (pc : ℕ) (st : List Datum) → At c n vs ps pc st → (p : Part) (d : Construct) (j : Link) (a l : Layout) → nth (parts c) n ≡ Some p → p.tree ≡ Some d
      → held_count p.held ≡ length vs → rest n (body ps c) ≡ inner j a l → Begins root d (piece c (suc n) vs ∷ ps) pc st
  part_begins c n vs ps pc st h p d j a l there tree held is =
      let linked : tree_of (part_at c (suc n)) ≡ Some d = ap tree_of there ∙ tree in
      let q = piece c (suc n) vs in
      let opened : front (points.piece fit ps q d linked).link ≡ first_size d = ap (λ b. cond b 1 0) (points.piece fit ps q d linked).opened in
      let e1 = entry_is n (body ps c) in
      let e2 : entry (suc zero) (rest n (body ps c)) ≡ 0 = ap (entry (suc zero)) is in
      record { linked = (linked, h.linked); counted = (sym held ∙ sym (ap part_count there), h.counted); place = omega (arith, e1, e2, h.place, opened, start_is fit f.whole q ps d linked); stack = h.stack }

  whole_done : (c : Construct) (n : ℕ) (vs : List Datum) (ps : List Piece) (pc : ℕ) (st : List Datum) → At c n vs ps pc st → rest n (body ps c) ≡ stop → length vs ≡ outcome c → Done root c vs ps pc st
  whole_done c n vs ps pc st h e m =
      let a = whole_size n (body ps c) in
      let b : size (rest n (body ps c)) ≡ 0 = ap size e in
      record { linked = h.linked; counted = h.counted; count = m; place = omega (arith, a, b, h.place); stack = h.stack }

  tree_is : (ar : Around) (c : Construct) (m h : ℕ) (j : Link) (a : Layout) (o : Option Construct) (go : Construct → Type 0) (goal : Type 0) → PartFits ar c m h j a o go → ((d : Construct) → o ≡ Some d → goal) → goal
  tree_is ar c m h j a None go goal p k = absurd p.1
  tree_is ar c m h j a (Some d) go goal p k = k d refl

  reached_now : (c : Construct) (n : ℕ) (vs : List Datum) (ps : List Piece) (pc : ℕ) (st : List Datum) → At c n vs ps pc st → (vars : Named Datum) (g : Focus) (qs : List Piece) (t : ℕ) (s : Scene)
      → Follows f.player (led t (reach s (pending f vars g qs) c n vs ps)) (put vars s pc st t)
  reached_now c n vs ps pc st h vars g qs t s = at_layout (rest n (body ps c)) (drop n (parts c)) refl refl h.fits_here
    where
      at_layout : (l : Layout) (P : List Part) → rest n (body ps c) ≡ l → drop n (parts c) ≡ P → Fits (around ps) c n (length vs) P l → Follows f.player (led t (reach s (pending f vars g qs) c n vs ps)) (put vars s pc st t)
      at_layout (own op ns l) P e d m =
          subst (λ b. Follows f.player (led t (at_point s (pending f vars g qs) c n vs ps b)) (put vars s pc st t)) (sym m.0)
          (doing.now fit f ks waiting_are outs vars t s (operate c n vs) ps pc st
          (record { linked = h.linked; counted = h.counted; begun = h.begun; operation = op; parts_led_to = ns; after = l; there = e; count = m.1; place = h.place; stack = h.stack }))
      at_layout (inner j a l) [] e d m = absurd m
      at_layout (inner j a l) (p ∷ P) e d m =
          let there : nth (parts c) n ≡ Some p = nth_drop n (parts c) ∙ ap (λ x. nth x 0) d in
          subst (λ b. Follows f.player (led t (at_point s (pending f vars g qs) c n vs ps b)) (put vars s pc st t)) (sym m.0)
          (subst (λ o. Follows f.player (led t (on_part s (pending f vars g qs) c n vs ps o)) (put vars s pc st t)) (sym there)
          (tree_is (around ps) c (suc n) (held_count p.held) j a p.tree _ (Follows f.player (led t (on_tree s (pending f vars g qs) c n vs ps p.tree)) (put vars s pc st t)) m.2
          (λ x tree.
          subst (λ o. Follows f.player (led t (on_tree s (pending f vars g qs) c n vs ps o)) (put vars s pc st t)) (sym tree)
          (doing.now fit f ks waiting_are outs vars t s (begin x) (piece c (suc n) vs ∷ ps) pc st (part_begins c n vs ps pc st h p x j a l there tree m.1 e)))))
      at_layout stop (p ∷ P) e d m = absurd m
      at_layout stop [] e d m =
          let there : nth (parts c) n ≡ None = nth_drop n (parts c) ∙ ap (λ x. nth x 0) d in
          subst (λ b. Follows f.player (led t (at_point s (pending f vars g qs) c n vs ps b)) (put vars s pc st t)) (sym m.0)
          (subst (λ o. Follows f.player (led t (on_part s (pending f vars g qs) c n vs ps o)) (put vars s pc st t)) (sym there)
          (completed_now c vs ps pc st (whole_done c n vs ps pc st h e m.1) vars t s))
      at_layout (gap l) [] e d m = absurd m
      at_layout (gap l) (p ∷ P) e d m = absurd m

  -- ---- where a part comes back to

  begun_at : (q : Piece) (d : Construct) → tree_of (part_at q.construct q.part) ≡ Some d → HasBegun q.construct q.part
  begun_at q d e = by q.part e
    where
      by : (n : ℕ) → tree_of (part_at q.construct n) ≡ Some d → HasBegun q.construct n
      by zero e = tt
      by (suc n) e = (d, e)

  back : (q : Piece) (ps : List Piece) (d : Construct) (h : tree_of (part_at q.construct q.part) ≡ Some d) → Linked q.construct ps root → Counted (q ∷ ps) → (vs : List Datum) (pc : ℕ) (st : List Datum)
      → length vs ≡ after_count (points.piece fit ps q d h).link.reception (length q.held) (outcome d) → pc ≡ start (q ∷ ps) + size (body (q ∷ ps) d) + reception_size (points.piece fit ps q d h).link.reception → st ≡ onto vs (operands ps)
      → At q.construct q.part vs ps pc st
  back q ps d h linked counted vs pc st many at is =
      let r = points.piece fit ps q d h in
      record {
        linked = linked;
        counted = counted.1;
        begun = begun_at q d h;
        fits_here =
            subst (λ n. Fits (around ps) q.construct q.part n (drop q.part (parts q.construct)) (rest q.part (body ps q.construct)))
            (ap (λ n. after_count r.link.reception n (outcome d)) (sym counted.0) ∙ sym many) r.fits_after;
        place = at ∙ sym (ends_at fit f.whole q ps d h);
        stack = is;
      }

  -- a part that has ended early goes on there
  straight_only : (q : Piece) (ps : List Piece) (p : Program) (h : tree_of (part_at q.construct q.part) ≡ Some (of_program p)) → (points.piece fit ps q (of_program p) h).link.reception ≡ straight
  straight_only q ps p h = by (points.piece fit ps q (of_program p) h).link.reception (points.piece fit ps q (of_program p) h).receives
    where
      by : (r : Reception) → Receives (around ps) q.construct r q.part (part_count (part_at q.construct q.part)) (of_program p) → r ≡ straight
      by straight k = refl
      by (received w n u) k = absurd k.3

  pub ended : Ended fit f ks waiting_are outs
  ended vars q ps p linked counted g qs t s pc at =
      let r = straight_only q ps p linked.0 in
      let many : length q.held ≡ after_count (points.piece fit ps q (of_program p) linked.0).link.reception (length q.held) 0 = plus_none (length q.held) ∙ ap (λ z. after_count z (length q.held) 0) (sym r) in
      let no_size : reception_size (points.piece fit ps q (of_program p) linked.0).link.reception ≡ 0 = ap reception_size r in
      reached_now q.construct q.part q.held ps pc (operands (q ∷ ps)) (back q ps (of_program p) linked.0 linked.1 counted q.held pc (operands (q ∷ ps)) many (omega (arith, at, no_size)) refl) vars g qs t s
    where
      plus_none : (n : ℕ) → n ≡ n + 0
      plus_none n = omega arith

  -- ---- a step is an instruction

  does_here : (c : Construct) (n : ℕ) (ps : List Piece) (op : Operation) (ns : List ℕ) (l : Layout) → HasBegun c n → rest n (body ps c) ≡ own op ns l → Does (around ps) c n op ns l
  does_here c zero ps op ns l b e = (subst (λ z. Fits (around ps) c 0 (first_size c) (parts c) z) e (fit (around ps) c)).2
  does_here c (suc n) ps op ns l b e =
      let r = points.piece_at (around ps) c (fit (around ps) c) (suc n) b.0 b.1 in
      (subst (λ z. Fits (around ps) c (suc n) (after_count r.link.reception (part_count (part_at c (suc n))) (outcome b.0)) (drop (suc n) (parts c)) z) e r.fits_after).2

  falls : (c : Construct) (n : ℕ) (ps : List Piece) (op : Operation) (ns : List ℕ) (l : Layout) (pc : ℕ) → rest n (body ps c) ≡ own op ns l → pc ≡ start ps + reached n (body ps c) → Falls n l (suc pc) (target ps c)
  falls c n ps op ns l pc e at = (
    (λ z.
        let a = whole_size n (body ps c) in
        let b : size (rest n (body ps c)) ≡ suc (size l) = ap size e in
        omega (arith, a, b, z, at)),
    (λ z.
        let a = entry_is n (body ps c) in
        let b : entry (suc zero) (rest n (body ps c)) ≡ 1 = ap (entry (suc zero)) e ∙ first l z in
        omega (arith, a, b, at)),
  )
    where
      first : (l : Layout) → IsInner l → entry (suc zero) (own op ns l) ≡ 1
      first (inner k a l) z = refl
      first stop z = absurd z
      first (own o ms l) z = absurd z
      first (gap l) z = absurd z

  steps : (c : Construct) (n : ℕ) (vs : List Datum) (ps : List Piece) (pc : ℕ) (st : List Datum) → Operates root c n vs ps pc st → (vars : Named Datum) (t : ℕ) (s : Scene)
      → Follows f.player (advance t s (pending f vars (operate c n vs) ps)) (Machine vars s pc st t)
  unfolding after turn turn_on
  steps c n vs ps pc st h vars t s =
      let op = h.operation in
      let l = h.after in
      let places = placed (target ps c) h.parts_led_to in
      let k = kept f vars pc st in
      let p = pending f vars (operate c n vs) ps in
      let does_all = does_here c n ps op h.parts_led_to l h.begun h.there in
      let sees : Sees (around ps) f vars ps ks (operands ps) = (same_calls f.outer ks waiting_are, loops_agree ps, λ s g. brackets_agree f vars ps ks c h.linked h.counted s g) in
      let row = λ (u : Scene). does_all f vars (operate c n vs) ps ks (operands ps) u vs (target ps c) (suc pc) sees (sym h.count) (falls c n ps op h.parts_led_to l pc h.there h.place) in
      let doing_it : ℕ → Scene → Effect → Step = λ left u e. M.does f.player left ks (out_of f.player left ks) u (kept f vars pc (operands ps)) (unraised op) (place_for (suc pc) places) e in
      let go : List Datum → List Datum → Step = λ us below. M.performs f.player s k ks op (place_for (suc pc) places) t us below in
      let there : slice_get (code_of f.whole) pc ≡ Some (perform op places) = operation_there fit f.whole c ps n pc op h.parts_led_to l h.linked h.there h.place in
      let e : Machine vars s pc st t ≡ charged (seen f.player k ks) (step_ticks c n vs) t s (λ left u. doing_it left u (performed u (seen f.player k ks) (operands ps) op vs)) =
      ap (M.act f.player s k ks t) there ∙ ap (λ x. with_operands (arity op) [] x go) h.stack ∙ operands_taken (arity op) vs (operands ps) go h.count
      ∙ ap (λ x. charged (seen f.player k ks) x t s (λ left u. doing_it left u (performed u (seen f.player k ks) (operands ps) op vs))) (row s).1 in
      let traces : trace p ≡ trace (seen f.player k ks) = ap (λ z. traced f.player f.call ∷ z) (same_trace f.player f.outer ks waiting_are) in
      let handled = handled_at_operation fit f.whole c ps n pc op h.parts_led_to l h.linked h.there h.place in
      subst (Follows f.player (advance t s p)) (sym e)
      (paid f.player (step_ticks c n vs) t s p (seen f.player k ks) traces (λ left u. doing_it left u (performed u (seen f.player k ks) (operands ps) op vs))
      (λ left u.
      subst (λ x. Follows f.player (led left (turn u p)) (doing_it left u x)) (sym (row u).0)
      (calling.does fit f ks waiting_are outs ended ps h.counted pc handled l (place_for (suc pc) places) c h.linked (falls c n ps op h.parts_led_to l pc h.there h.place).0 vars (unraised op) (effect u p c n vs) (operate c n vs) ps left u (row u).2)))

  -- ---- turns that take no instruction

  abbrev weight : Layout → ℕ
  weight stop = 0
  weight (own op ns l) = suc (weight l)
  weight (inner k a l) = suc (suc (weight a + weight l))
  weight (gap l) = suc (weight l)

  abbrev burden : List Piece → ℕ
  burden [] = 0
  burden (q ∷ ps) = suc (weight (rest q.part (body ps q.construct)) + burden ps)

  abbrev Goal : ℕ → Type 0
  Goal k =
      (c : Construct) (n : ℕ) (vs : List Datum) (ps : List Piece) (pc : ℕ) (st : List Datum) → At c n vs ps pc st → weight (rest n (body ps c)) + burden ps < k
      → (vars : Named Datum) (g : Focus) (qs : List Piece) (t : ℕ) (s : Scene) → Follows f.player (led t (reach s (pending f vars g qs) c n vs ps)) (Machine vars s pc st t)

  at_first : (c : Construct) (ps : List Piece) (vs : List Datum) (pc : ℕ) (st : List Datum) → Linked c ps root → Counted ps → held_at_first c ≡ vs → pc ≡ start ps → st ≡ onto vs (operands ps) → At c 0 (held_at_first c) ps pc st
  at_first c ps vs pc st linked counted e at is =
      let p : pc ≡ start ps + 0 = omega (arith, at) in
      record { linked = linked; counted = counted; begun = tt; fits_here = subst (λ n. Fits (around ps) c 0 n (parts c) (layout (around ps) c)) (sym (first_held_is c)) (fit (around ps) c); place = p; stack = is ∙ ap (λ z. onto z (operands ps)) (sym e) }

  -- a construct begins, with an empty list or with nothing
  begin_on : (k : ℕ) → Goal k → (c : Construct) (ps : List Piece) (pc : ℕ) (st : List Datum) → Begins root c ps pc st → weight (body ps c) + burden ps < k → (vars : Named Datum) (t : ℕ) (s : Scene)
      → Follows f.player (advance t s (pending f vars (begin c) ps)) (Machine vars s pc st t)
  unfolding turn_on
  begin_on k go c ps pc st h small vars t s = free_turn f t s vars (begin c) ps _ refl (by (opens c) refl)
    where
      opening : (ps : List Piece) → Linked c ps root → opens c ≡ true → suc pc ≡ start ps → slice_get (code_of f.whole) pc ≡ Some open_list
      opening [] l o at = no_root (sym (ap opens l) ∙ o)
        where
          no_root : false ≡ true → slice_get (code_of f.whole) pc ≡ Some open_list
          no_root z = cc
      opening (q ∷ ps) l o at = opening_there fit f.whole q ps c l.0 l.1 o pc at

      by : (b : Bool) → opens c ≡ b → Follows f.player (led t (reach s (pending f vars (begin c) ps) c 0 (held_at_first c) ps)) (Machine vars s pc st t)
      by true o =
          let one : first_size c ≡ 1 = ap (λ b. cond b 1 0) o in
          let at : suc pc ≡ start ps = omega (arith, h.place, one) in
          subst (Follows f.player (led t (reach s (pending f vars (begin c) ps) c 0 (held_at_first c) ps))) (sym (ap (M.act f.player s (kept f vars pc st) ks t) (opening ps h.linked o at)))
          (reached_now c 0 (held_at_first c) ps (suc pc) (list no_data ∷ st) (at_first c ps (list no_data ∷ []) (suc pc) (list no_data ∷ st) h.linked h.counted (first_list c o) at (ap (λ z. list no_data ∷ z) h.stack)) vars (begin c) ps t s)
      by false o =
          let none : first_size c ≡ 0 = ap (λ b. cond b 1 0) o in
          let at : pc ≡ start ps = omega (arith, h.place, none) in
          go c 0 (held_at_first c) ps pc st (at_first c ps [] pc st h.linked h.counted (first_none c o) at h.stack) small vars (begin c) ps t s

  -- ---- a construct that is done

  free_end : (c : Construct) (vs : List Datum) → ticks_of (completed c vs) ≡ 0
  free_end (of_expr e) vs = refl
  free_end c vs = refl

  handed : (c : Construct) (vs : List Datum) (s : Scene) (p : Pending) (q : Piece) (ps : List Piece) → way_at q.construct q.part ≡ beside → length vs ≡ outcome c → turn_on s p (completed c vs) (q ∷ ps) ≡ reach s p q.construct q.part (q.held ++ vs) ps
  unfolding turn_on
  handed (of_expr e) [] s p q ps w h = absurd (omega (arith, h))
  handed (of_expr e) (v ∷ []) s p q ps w h = ap (λ z. receiving s p q ps (held_with z q.held v)) w
  handed (of_expr e) (v ∷ u ∷ vs) s p q ps w h = absurd (omega (arith, h))
  handed (of_target t) vs s p q ps w h = refl
  handed c [] s p q ps w h = ap (λ z. reach s p q.construct q.part z ps) (sym (append-nil q.held))
  handed c (v ∷ vs) s p q ps w h = absurd (omega (arith, h))

  end_of_program : (c : Construct) (vs : List Datum) (pc : ℕ) (st : List Datum) → Done root c vs [] pc st → (vars : Named Datum) (t : ℕ) (s : Scene) → Follows f.player (advance t s (pending f vars (completed c vs) [])) (Machine vars s pc st t)
  unfolding turn_on after
  end_of_program c vs pc st d vars t s =
      let whole = body [] root in
      let last : completed c vs ≡ next = ap (λ x. completed x vs) d.linked in
      let n : pc ≡ 0 + size whole = d.place ∙ ap (λ x. 0 + size (body [] x)) d.linked in
      let past : length (code_of f.whole) ≤ pc = omega (arith, n, code_size whole) in
      let e : Machine vars s pc st t ≡ out_of f.player t ks s (returned (integer (pos 0))) = ap (M.act f.player s (kept f vars pc st) ks t) (slice_get_past (code_of f.whole) pc past) in
      subst (λ x. Follows f.player (advance t s (pending f vars x [])) (Machine vars s pc st t)) (sym last)
      (subst (Follows f.player (advance t s (pending f vars next []))) (sym e)
      (free_turn f t s vars next [] _ refl (one_turn f t s vars (leave (returned (integer (pos 0)))) [] _ refl (outs vars (leave (returned (integer (pos 0)))) [] (returned (integer (pos 0))) t s))))

  -- a value that a list receives
  received_back : (e : Expr) (v : Datum) (q : Piece) (ps : List Piece) (pc : ℕ) (st : List Datum) (d : Done root (of_expr e) (v ∷ []) (q ∷ ps) pc st) (w : Way) (n : ℕ) (u : Unraised)
      → (points.piece fit ps q (of_expr e) d.linked.0).link.reception ≡ received w n u → Receives (around ps) q.construct (received w n u) q.part (part_count (part_at q.construct q.part)) (of_expr e)
      → (vars : Named Datum) (t : ℕ) (s : Scene) → Follows f.player (advance t s (pending f vars (hand v) (q ∷ ps))) (Machine vars s pc st t)
  unfolding turn_on
  received_back e v q ps pc st d w n u is h vars t s =
      let c = of_expr e in
      let sized : reception_size (points.piece fit ps q c d.linked.0).link.reception ≡ 1 = ap reception_size is in
      let n_is : n ≡ length q.held = h.2 ∙ sym d.counted.0 in
      let there = receiving_there fit f.whole q ps c d.linked.0 d.linked.1 w n u is pc d.place in
      let k' = kept f vars pc st in
      let end_ = target ps q.construct 0 in
      let go_on : List Datum → List Datum → Step = λ held below. M.receives f.player s k' ks t u end_ below (held_with w held v) in
      let all : List Datum → Step = λ x. with_operands 1 [] x (λ us z. with_operands n [] z (λ held below. M.receives f.player s k' ks t u end_ below (held_with w held (value_among us)))) in
      let m : Machine vars s pc st t ≡ go_on q.held (operands ps) =
      ap (M.act f.player s k' ks t) there ∙ ap all d.stack ∙ operands_taken n q.held (operands ps) go_on n_is in
      free_turn f t s vars (hand v) (q ∷ ps) _ refl
      (subst (λ y. Follows f.player (led t (receiving s (pending f vars (hand v) (q ∷ ps)) q ps (held_with y q.held v))) (Machine vars s pc st t)) (sym h.0)
      (subst (Follows f.player (led t (receiving s (pending f vars (hand v) (q ∷ ps)) q ps (held_with w q.held v)))) (sym m) (got sized n_is (held_with w q.held v) refl)))
    where
      got : reception_size (points.piece fit ps q (of_expr e) d.linked.0).link.reception ≡ 1 → n ≡ length q.held → (o : Option (List Datum)) → held_with w q.held v ≡ o
          → Follows f.player (led t (receiving s (pending f vars (hand v) (q ∷ ps)) q ps o)) (M.receives f.player s (kept f vars pc st) ks t u (target ps q.construct 0) (operands ps) o)
      got sized n_is None z =
          calling.fails fit f ks waiting_are outs ended ps d.counted.1 pc (handled_at_reception fit f.whole q ps (of_expr e) d.linked.0 d.linked.1 sized pc d.place) q.construct d.linked.1 vars u (target ps q.construct 0) (failure type_mismatch) (hand v) (q ∷ ps) t s h.4 refl
      got sized n_is (Some us) z =
          let r = points.piece fit ps q (of_expr e) d.linked.0 in
          let at : suc pc ≡ start (q ∷ ps) + size (body (q ∷ ps) (of_expr e)) + reception_size r.link.reception = omega (arith, d.place, sized) in
          let many : length us ≡ after_count r.link.reception (length q.held) 1 = held_count_after w n u q.held us v h.1 n_is z ∙ ap (λ x. after_count x (length q.held) 1) (sym is) in
          reached_now q.construct q.part us ps (suc pc) (onto us (operands ps)) (back q ps (of_expr e) d.linked.0 d.linked.1 d.counted us (suc pc) (onto us (operands ps)) many at refl) vars (hand v) (q ∷ ps) t s

  received_case : (c : Construct) (vs : List Datum) (q : Piece) (ps : List Piece) (pc : ℕ) (st : List Datum) (d : Done root c vs (q ∷ ps) pc st) (w : Way) (n : ℕ) (u : Unraised)
      → (points.piece fit ps q c d.linked.0).link.reception ≡ received w n u → Receives (around ps) q.construct (received w n u) q.part (part_count (part_at q.construct q.part)) c
      → (vars : Named Datum) (t : ℕ) (s : Scene) → Follows f.player (advance t s (pending f vars (completed c vs) (q ∷ ps))) (Machine vars s pc st t)
  received_case (of_expr e) [] q ps pc st d w n u is h vars t s = absurd (omega (arith, d.count))
  received_case (of_expr e) (v ∷ []) q ps pc st d w n u is h vars t s = received_back e v q ps pc st d w n u is h vars t s
  received_case (of_expr e) (v ∷ y ∷ vs) q ps pc st d w n u is h vars t s = absurd (omega (arith, d.count))
  received_case (of_target x) vs q ps pc st d w n u is h vars t s = absurd h.3
  received_case (of_default y x) vs q ps pc st d w n u is h vars t s = absurd h.3
  received_case (of_statement x) vs q ps pc st d w n u is h vars t s = absurd h.3
  received_case (of_program x) vs q ps pc st d w n u is h vars t s = absurd h.3

  comes_back : (k : ℕ) → Goal k → (c : Construct) (vs : List Datum) (ps : List Piece) (pc : ℕ) (st : List Datum) → Done root c vs ps pc st → burden ps < suc k → (vars : Named Datum) (t : ℕ) (s : Scene)
      → Follows f.player (advance t s (pending f vars (completed c vs) ps)) (Machine vars s pc st t)
  comes_back k go c vs [] pc st d small vars t s = end_of_program c vs pc st d vars t s
  comes_back k go c vs (q ∷ ps) pc st d small vars t s = by (points.piece fit ps q c d.linked.0).link.reception refl (points.piece fit ps q c d.linked.0).receives
    where
      by : (z : Reception) → (points.piece fit ps q c d.linked.0).link.reception ≡ z → Receives (around ps) q.construct z q.part (part_count (part_at q.construct q.part)) c
          → Follows f.player (advance t s (pending f vars (completed c vs) (q ∷ ps))) (Machine vars s pc st t)
      by straight is h =
          let r = points.piece fit ps q c d.linked.0 in
          let none : reception_size r.link.reception ≡ 0 = ap reception_size is in
          let at : pc ≡ start (q ∷ ps) + size (body (q ∷ ps) c) + reception_size r.link.reception = omega (arith, d.place, none) in
          let plus : length q.held + outcome c ≡ length (q.held ++ vs) = omega (arith, d.count, length-append q.held vs) in
          let many : length (q.held ++ vs) ≡ after_count r.link.reception (length q.held) (outcome c) = sym plus ∙ ap (λ x. after_count x (length q.held) (outcome c)) (sym is) in
          free_turn f t s vars (completed c vs) (q ∷ ps) _ (free_end c vs)
          (subst (λ x. Follows f.player (led t x) (Machine vars s pc st t)) (sym (handed c vs s (pending f vars (completed c vs) (q ∷ ps)) q ps h d.count))
          (go q.construct q.part (q.held ++ vs) ps pc st (back q ps c d.linked.0 d.linked.1 d.counted (q.held ++ vs) pc st many at (d.stack ∙ sym (onto_append q.held vs (operands ps)))) (omega (arith, small)) vars (completed c vs) (q ∷ ps) t s))
      by (received w n u) is h = received_case c vs q ps pc st d w n u is h vars t s

  reach_on : (k : ℕ) → Goal k
  reach_on zero c n vs ps pc st h small vars g qs t s = absurd (omega (arith, small))
  reach_on (suc k) c n vs ps pc st h small vars g qs t s = at_layout (reach_on k) (rest n (body ps c)) (drop n (parts c)) refl refl h.fits_here small
    where
      under : (ar : Around) (m k' : ℕ) (j : Link) (a : Layout) (o : Option Construct) (go : Construct → Type 0) (goal : Type 0) → PartFits ar c m k' j a o go → ((d : Construct) → o ≡ Some d → a ≡ layout (within ar c m k') d → goal) → goal
      under ar m k' j a None go goal p k = absurd p.1
      under ar m k' j a (Some d) go goal p k = k d refl p.1.1

      at_layout : Goal k → (l : Layout) (P : List Part) → rest n (body ps c) ≡ l → drop n (parts c) ≡ P → Fits (around ps) c n (length vs) P l → weight l + burden ps < suc k → Follows f.player (led t (reach s (pending f vars g qs) c n vs ps)) (Machine vars s pc st t)
      at_layout go (own op ns l) P e d m less =
          subst (λ b. Follows f.player (led t (at_point s (pending f vars g qs) c n vs ps b)) (Machine vars s pc st t)) (sym m.0)
          (before f.player t s _ _ (steps c n vs ps pc st (record { linked = h.linked; counted = h.counted; begun = h.begun; operation = op; parts_led_to = ns; after = l; there = e; count = m.1; place = h.place; stack = h.stack }) vars t s))
      at_layout go (inner j a l) [] e d m less = absurd m
      at_layout go (inner j a l) (p ∷ P) e d m less =
          let there : nth (parts c) n ≡ Some p = nth_drop n (parts c) ∙ ap (λ x. nth x 0) d in
          subst (λ b. Follows f.player (led t (at_point s (pending f vars g qs) c n vs ps b)) (Machine vars s pc st t)) (sym m.0)
          (subst (λ o. Follows f.player (led t (on_part s (pending f vars g qs) c n vs ps o)) (Machine vars s pc st t)) (sym there)
          (under (around ps) (suc n) (held_count p.held) j a p.tree _ (Follows f.player (led t (on_tree s (pending f vars g qs) c n vs ps p.tree)) (Machine vars s pc st t)) m.2
          (λ x tree same.
          let q = piece c (suc n) vs in
          let after_it : rest (suc n) (body ps c) ≡ l = rest_next n (body ps c) ∙ ap (rest (suc zero)) e in
          let rest_is : weight (rest (suc n) (body ps c)) ≡ weight l = ap weight after_it in
          let size_is : weight (body (q ∷ ps) x) ≡ weight a = ap (λ z. weight (layout (within (around ps) c (suc n) z) x)) (ap part_count there) ∙ ap weight (sym same) in
          subst (λ o. Follows f.player (led t (on_tree s (pending f vars g qs) c n vs ps o)) (Machine vars s pc st t)) (sym tree)
          (before f.player t s _ _ (begin_on k go x (q ∷ ps) pc st (part_begins c n vs ps pc st h p x j a l there tree m.1 e) (omega (arith, size_is, rest_is, less)) vars t s)))))
      at_layout go stop (p ∷ P) e d m less = absurd m
      at_layout go stop [] e d m less =
          let there : nth (parts c) n ≡ None = nth_drop n (parts c) ∙ ap (λ x. nth x 0) d in
          subst (λ b. Follows f.player (led t (at_point s (pending f vars g qs) c n vs ps b)) (Machine vars s pc st t)) (sym m.0)
          (subst (λ o. Follows f.player (led t (on_part s (pending f vars g qs) c n vs ps o)) (Machine vars s pc st t)) (sym there)
          (before f.player t s _ _ (comes_back k go c vs ps pc st (whole_done c n vs ps pc st h e m.1) (omega (arith, less)) vars t s)))
      at_layout go (gap l) [] e d m less = absurd m
      at_layout go (gap l) (p ∷ P) e d m less = absurd m

  one : (n : ℕ) → n < suc n
  one n = omega arith

  pub follows_here : (g : Focus) (ps : List Piece) (vars : Named Datum) (s : Scene) (pc t : ℕ) (st : List Datum) → Means root g ps pc st → Follows f.player (advance t s (pending f vars g ps)) (Machine vars s pc st t)
  follows_here (begin c) ps vars s pc t st m = begin_on (suc (weight (body ps c) + burden ps)) (reach_on _) c ps pc st m (one _) vars t s
  follows_here (hand v) ps vars s pc t st m = comes_back (burden ps) (reach_on (burden ps)) (of_expr m.0) (v ∷ []) ps pc st m.1 (one _) vars t s
  follows_here (aim vs) ps vars s pc t st m = comes_back (burden ps) (reach_on (burden ps)) (of_target m.0) vs ps pc st m.1 (one _) vars t s
  follows_here next ps vars s pc t st m =
      subst (λ x. Follows f.player (advance t s (pending f vars x ps)) (Machine vars s pc st t)) m.1 (comes_back (burden ps) (reach_on (burden ps)) m.0 [] ps pc st m.2 (one _) vars t s)
  follows_here (operate c n vs) ps vars s pc t st m = steps c n vs ps pc st m vars t s
  follows_here (leave l) ps vars s pc t st m = absurd m
