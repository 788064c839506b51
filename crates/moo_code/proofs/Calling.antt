-- Errors, calls of verbs and of built-ins, and each effect of an operation: the same in the definition and in a machine.
use Rattle.std.proofs.Common.{◌≡◌, ℕ, suc, ◌+◌, List, [], ◌∷◌, ◌++◌, Bool, true, false, ◌||◌, cond, refl, sym, subst}
use Rattle.std.specs.Prelude.{pos, nat_lt}
use Rattle.spec_value.specs.Datum.{Datum, Data, integer, too_many_calls}
use Rattle.spec_value.specs.Answer.{Answer, gives, raises, limited_answer}
use Rattle.spec_value.specs.Table.{Named, with_name}
use Rattle.spec_program.specs.Tree.{Expr, Program}
use Rattle.spec_program.specs.Construct.{Construct, of_expr, of_target, of_default, of_statement, of_program, Piece}
use Rattle.spec_program.specs.Place.{Linked}
use Rattle.spec_world.specs.World.{Call, Frame, Entry, frame_entry, native_entry}
use Rattle.spec_world.specs.WellFormed.{frames}
use Rattle.spec_moo.specs.Scene.{Scene}
use Rattle.spec_moo.specs.Leaving.{Leaving, failed, Failure, failure, come_by}
use Rattle.spec_moo.specs.Calling.{starting}
use Rattle.spec_moo.specs.NativeEffect as N
use Rattle.spec_moo.specs.Pending.{Focus, begin, hand, next, leave, to, goes_on}
use Rattle.spec_moo.specs.Effect.{Effect, hands, errs, takes, ends, leaves, stays, sets, calls, natively}
use Rattle.spec_moo.specs.Turn.{completed, failing, called_frame, waiting_frame, entering, native_answered, native_effected, effected}
use Rattle.spec_moo.specs.Segment.{runs, led, after}
use Rattle.moo_code.specs.Instruction.{Unraised, as_value, skipped, never}
use Rattle.moo_code.specs.Layout.{Layout, size, handlers_of}
use Rattle.moo_code.specs.Machine as M
use Rattle.moo_code.specs.Machine.{Outer, verb, native, Step, on, verbs, handlers_at, raises_always, code_onto, out_of}
use Rattle.moo_code.specs.Stands.{Counted, operands, body, start, target, marks, Verb, pending, kept, Waits, AllWait, Follows}
use Rattle.moo_code.proofs.Fits.{FailsAs, Suited, AllFit}
use Rattle.moo_code.proofs.Doing as doing
use Rattle.moo_code.proofs.Doing.{Outs, Ended, root}
use Rattle.moo_code.proofs.Waiting.{same_frames}

module _ (fit : AllFit) (f : Verb) (ks : List Outer) (waiting_are : AllWait f.outer ks) (outs : Outs f ks) (ended : Ended fit f ks waiting_are outs) where
  abbrev top : Construct
  top = of_program f.whole

  abbrev out : ℕ → Scene → Leaving → Step
  out t = out_of f.player t ks

  -- ---- at a construct that these pieces lead out of, in a verb at an instruction of it
  module _ (ps : List Piece) (counted : Counted ps) (pc : ℕ) (handled : handlers_at (handlers_of f.whole) pc ≡ marks ps) where
    raising : (c : Construct) → Linked c ps top → (vars : Named Datum) (x : Failure) (t : ℕ) (s : Scene)
        → Follows f.player (runs t s (pending f vars (leave (failed x)) ps)) (M.unwound f.player t ks (out t) s (kept f vars pc (operands ps)) (handlers_at (handlers_of f.whole) pc) (failed x))
    raising c linked vars x t s =
        subst (λ hs. Follows f.player (runs t s (pending f vars (leave (failed x)) ps)) (M.unwound f.player t ks (out t) s (kept f vars pc (operands ps)) hs (failed x))) (sym handled)
        (doing.leaving fit f ks waiting_are outs ended ps c linked counted vars (failed x) t s pc [] (operands ps) refl)

    -- what is raised or goes on, by a bit
    by_bit : (c : Construct) → Linked c ps top → (vars : Named Datum) (g h : Focus) (qs : List Piece) (x : Failure) (end : ℕ) (st : List Datum) (t : ℕ) (s : Scene)
        → Follows f.player (runs t s (pending f vars h ps)) (on s (kept f vars end st) ks t) → (b : Bool)
        → Follows f.player (led t (cond b (to s (pending f vars g qs) (leave (failed x)) ps) (to s (pending f vars g qs) h ps)))
        (cond b (M.unwound f.player t ks (out t) s (kept f vars pc (operands ps)) (handlers_at (handlers_of f.whole) pc) (failed x)) (on s (kept f vars end st) ks t))
    by_bit c linked vars g h qs x end st t s r true = raising c linked vars x t s
    by_bit c linked vars g h qs x end st t s r false = r

    pub fails : (c : Construct) (linked : Linked c ps top) (vars : Named Datum) (u : Unraised) (end : ℕ) (x : Failure) (g : Focus) (qs : List Piece) (t : ℕ) (s : Scene) → FailsAs c u → end ≡ start ps + size (body ps c)
        → Follows f.player (led t (failing s (pending f vars g qs) c ps x)) (M.fails f.player t ks (out t) s (kept f vars pc (operands ps)) u end x)
    fails (of_expr e) linked vars as_value end x g qs t s h at =
        by_bit (of_expr e) linked vars g (hand x.code) qs (come_by f.player f.call x) end (x.code ∷ operands ps) t s (doing.value_now fit f ks waiting_are outs (of_expr e) ps linked counted tt vars x.code t s end at) (f.call.debug || false)
    fails (of_target e) linked vars as_value end x g qs t s h at = absurd h
    fails (of_default y e) linked vars as_value end x g qs t s h at = absurd h
    fails (of_statement e) linked vars as_value end x g qs t s h at = absurd h
    fails (of_program e) linked vars as_value end x g qs t s h at = absurd h
    fails c linked vars skipped end x g qs t s h at =
        subst (λ b. Follows f.player (led t (cond (f.call.debug || b) (to s (pending f vars g qs) (leave (failed (come_by f.player f.call x))) ps) (to s (pending f vars g qs) (completed c (x.code ∷ [])) ps)))
        (M.fails f.player t ks (out t) s (kept f vars pc (operands ps)) skipped end x)) (sym h.0)
        (subst (λ z. Follows f.player (led t (cond (f.call.debug || false) (to s (pending f vars g qs) (leave (failed (come_by f.player f.call x))) ps) (to s (pending f vars g qs) z ps)))
        (M.fails f.player t ks (out t) s (kept f vars pc (operands ps)) skipped end x)) (sym (h.2 x.code))
        (by_bit c linked vars g next qs (come_by f.player f.call x) end (operands ps) t s (doing.empty_now fit f ks waiting_are outs c ps linked counted h.1 vars t s end at) (f.call.debug || false)))
    fails c linked vars never end x g qs t s h at =
        subst (λ b. Follows f.player (led t (cond (f.call.debug || b) (to s (pending f vars g qs) (leave (failed (come_by f.player f.call x))) ps) (to s (pending f vars g qs) (completed c (x.code ∷ [])) ps)))
        (M.fails f.player t ks (out t) s (kept f vars pc (operands ps)) never end x)) (sym h)
        (always f.call.debug)
      where
        always : (b : Bool)
            → Follows f.player (led t (cond (b || true) (to s (pending f vars g qs) (leave (failed (come_by f.player f.call x))) ps) (to s (pending f vars g qs) (completed c (x.code ∷ [])) ps)))
            (cond (b || true) (M.unwound f.player t ks (out t) s (kept f vars pc (operands ps)) (handlers_at (handlers_of f.whole) pc) (failed (come_by f.player f.call x))) (on s (kept f vars end (operands ps)) ks t))
        always true = raising c linked vars (come_by f.player f.call x) t s
        always false = raising c linked vars (come_by f.player f.call x) t s

    -- ---- at a call
    module _ (e : Expr) (linked : Linked (of_expr e) ps top) (at : suc pc ≡ start ps + size (body ps (of_expr e))) where
      abbrev standing : Named Datum → Frame
      standing vars = record { call = f.call; start = f.start_with; program = f.whole; variables = vars; pieces = ps }

      waits_here : (vars : Named Datum) → Waits (standing vars) (kept f vars pc (operands ps))
      waits_here vars = record { place = pc; is = refl; at = e; linked = linked; counted = counted; end = at; handled = handled }

      module _ (end : ℕ) (ends_there : end ≡ start ps + size (body ps (of_expr e))) (vars : Named Datum) (g : Focus) (qs : List Piece) (t : ℕ) where
        -- a verb begins, with a built-in or none between
        entered : (s : Scene) (es : List Entry) (os : List Outer) (d : Call) (b : Program) (args : Data) → AllWait (es ++ frame_entry (standing vars) ∷ f.outer) (os ++ verb (kept f vars pc (operands ps)) ∷ ks)
            → Follows f.player (led t (entering s (pending f vars g qs) (of_expr e) ps es d b args)) (M.enters f.player t ks (out t) s (kept f vars pc (operands ps)) os end d b args)
        unfolding after
        entered s es os d b args h =
            subst (λ n. Follows f.player (led t (entering s (pending f vars g qs) (of_expr e) ps es d b args))
            (cond (nat_lt n 49) (on s (M.called f.player t ks (out t) (kept f vars pc (operands ps)) d b args) (os ++ verb (kept f vars pc (operands ps)) ∷ ks) t) (M.fails f.player t ks (out t) s (kept f vars pc (operands ps)) as_value end (failure too_many_calls))))
            (same_frames f.outer ks waiting_are) (by (nat_lt (frames f.outer) 49))
          where
            by : (z : Bool)
                → Follows f.player (led t (cond z (goes_on s (record (pending f vars g qs) { focus = begin (of_program b); frame = called_frame (pending f vars g qs) d b args; outer = es ++ waiting_frame (pending f vars g qs) ps ∷ f.outer })) (failing s (pending f vars g qs) (of_expr e) ps (failure too_many_calls))))
                (cond z (on s (M.called f.player t ks (out t) (kept f vars pc (operands ps)) d b args) (os ++ verb (kept f vars pc (operands ps)) ∷ ks) t) (M.fails f.player t ks (out t) s (kept f vars pc (operands ps)) as_value end (failure too_many_calls)))
            by true =
                let inner_verb : Verb = record { player = f.player; call = d; start_with = f.start_with; whole = b; outer = es ++ frame_entry (standing vars) ∷ f.outer } in
                record {
                  by = (
                    inner_verb,
                    starting f.player d d.verb f.start_with args,
                    begin (of_program b),
                    [],
                    refl,
                    (0, refl),
                    record { place = 0; stack = []; is = refl; means = record { linked = refl; counted = tt; place = refl; stack = refl }; waiting = h },
                  );
                }
            by false = fails (of_expr e) linked vars as_value end (failure too_many_calls) g qs t s tt ends_there

        answered : (s : Scene) (a : Answer) → Follows f.player (led t (native_answered s (pending f vars g qs) (of_expr e) ps a)) (M.native_answers f.player t ks (out t) s (kept f vars pc (operands ps)) end a)
        answered s (gives v) = doing.value_now fit f ks waiting_are outs (of_expr e) ps linked counted tt vars v t s end ends_there
        answered s (raises x) = fails (of_expr e) linked vars as_value end (failure x) g qs t s tt ends_there

        -- what a built-in does; an error in it is that of any expression there
        pub native_does : (y : Expr) (x : N.NativeEffect)
            → Follows f.player (led t (native_effected (pending f vars g qs) (of_expr y) ps x)) (M.natively_does f.player t ks (out t) (kept f vars pc (operands ps)) end x)
        unfolding native_effected M.natively_does after
        native_does y (N.answers s a) = answered s (limited_answer a)
        native_does y (N.complains s x) = fails (of_expr e) linked vars as_value end x g qs t s tt ends_there
        native_does y (N.begins s n d b args) = entered s (native_entry n ∷ []) (native n ∷ []) d b args (refl, (waits_here vars, waiting_are))
        native_does y (N.waits s why) = record { by = (frame_entry (standing vars) ∷ f.outer, (0, refl), (waits_here vars, waiting_are)) }
        native_does y (N.dies s) = record { by = (0, refl) }
        native_does y (N.becomes s who) =
            let f' : Verb = record { player = f.player; call = record (f.call) { programmer = who }; start_with = f.start_with; whole = f.whole; outer = f.outer } in
            record {
              by = (
                f',
                vars,
                hand (integer (pos 0)),
                ps,
                refl,
                (0, refl),
                record { place = end; stack = integer (pos 0) ∷ operands ps; is = refl; means = (e, record { linked = linked; counted = counted; count = refl; place = ends_there; stack = refl }); waiting = waiting_are },
              );
            }

    -- ---- each effect
    module _ (l : Layout) (to_part : ℕ → ℕ) where
      pub does : (c : Construct) (linked : Linked c ps top) → (size l ≡ 0 → suc pc ≡ start ps + size (body ps c)) → (vars : Named Datum) (u : Unraised) (e : Effect) (g : Focus) (qs : List Piece) (t : ℕ) (s : Scene)
          → Suited c to_part (target ps c) l u e → Follows f.player (led t (effected s (pending f vars g qs) c ps e)) (M.does f.player t ks (out t) s (kept f vars pc (operands ps)) u to_part e)
      unfolding effected M.does
      does c linked last vars u (hands w v) g qs t s h = doing.lands fit f ks waiting_are outs c ps linked counted vars to_part (hands w v) pc g qs t s h
      does c linked last vars u (errs w x) g qs t s h = fails c linked vars u (to_part 0) x g qs t w h.1 h.0
      does c linked last vars u (takes m vs) g qs t s h = doing.lands fit f ks waiting_are outs c ps linked counted vars to_part (takes m vs) pc g qs t s h
      does c linked last vars u (ends w) g qs t s h = doing.lands fit f ks waiting_are outs c ps linked counted vars to_part (ends w) pc g qs t s h
      does c linked last vars u (leaves x) g qs t s h =
          subst (λ hs. Follows f.player (runs t s (pending f vars (leave x) ps)) (M.unwound f.player t ks (out t) s (kept f vars pc (operands ps)) hs x)) (sym handled)
          (doing.leaving fit f ks waiting_are outs ended ps c linked counted vars x t s pc [] (operands ps) refl)
      does c linked last vars u stays g qs t s h = absurd h
      does c linked last vars u (sets x v e) g qs t s h = does c linked last (with_name vars x v) u e g qs t s h
      does (of_expr e) linked last vars u (calls d b args) g qs t s h =
          entered e linked (last h.2) (to_part 0) h.0 vars g qs t s [] [] d b args (waits_here e linked (last h.2) vars, waiting_are)
      does (of_expr e) linked last vars u (natively x) g qs t s h = native_does e linked (last h.2) (to_part 0) h.0 vars g qs t e x
      does c linked last vars u (calls d b args) g qs t s h = absurd h.1
      does c linked last vars u (natively x) g qs t s h = absurd h.1
