-- The board under its lock may be lent to other threads, and a worker with what it is lent may go to one.
use denote.Param as param
use denote.Param.Send.{IsSend, IsSync, sendable, view_send}
use denote.Param.SendFields.{as_row_send, declared_send, declared_sync}
use denote.RattleType.{RattleType}
use denote.Ref.{NamedLft}
use denote.Struct.Field.{shr_ref_field, shr_slice_field, u8-field, u64-field}
use denote.Struct.Tuple.{type_at, TupleAt}
use mir.Syntax.{Sym}
use Rattle.std.specs.Prelude.{List, [], ◌∷◌}
use Rattle.std.proofs.Crossing.{Vec-send, crosses}
use Rattle.round_claims.proofs.Crossing.{claims_sync, seat_send}
use Rattle.round_claims.specs.contracts.claims.Claims as claims
use Rattle.round_claims.specs.contracts.claims.ClaimSeat as seat
use Rattle.view.proofs.PartsCrossing.{changes_send}
use Rattle.task_step.proofs.Crossing.{step_send, step_sync, outcome_send}
use Rattle.world.proofs.Crossing.{count_send, seen_send, shared_send, snapshot_sync, world_send}
use Rattle.speculate.specs.contracts.bench.Bench as bench
use Rattle.speculate.specs.contracts.bench.Ran as ran
use Rattle.speculate.specs.contracts.bench.Ran.TheInside as inside
use Rattle.speculate.specs.contracts.board.Board as board
use Rattle.speculate.specs.contracts.guesses.Remains as remains
use Rattle.speculate.specs.contracts.guesses.Guess as guess
use Rattle.speculate.specs.contracts.guesses.Spent as spent
use Rattle.speculate.specs.contracts.held.Held as held
use Rattle.speculate.specs.contracts.held.Mark as mark
use Rattle.speculate.specs.contracts.lane.Lane as lane
use Rattle.speculate.specs.contracts.lane.Told as told
use Rattle.speculate.specs.contracts.luck.Luck as luck
use Rattle.speculate.specs.contracts.shared.SharedBoard as shared
use Rattle.speculate.specs.contracts.shared.Tied as tied
use Rattle.speculate.specs.contracts.slots_read.SlotsRead as slots
use Rattle.speculate.specs.contracts.stamps.Stamps as stamps
use Rattle.speculate.specs.declared.shared.Run as Run
use Rattle.std.specs.contracts.alloc.Global as Global
use Rattle.std.specs.contracts.marker.PhantomData as PhantomData
use Rattle.task_step.specs.contracts.step.Step as step
use Rattle.world.specs.contracts.worlds.Snapshot as snapshot

slots_send : IsSend slots.the_row
slots_send = search (sendable, crosses) depth 60

luck_send : IsSend luck.the_row
luck_send = search (sendable, crosses) depth 60

stamps_send : IsSend stamps.the_row
stamps_send = search (sendable, crosses) depth 60

guess_send : IsSend guess.the_row
guess_send = search (sendable, crosses, step_send, seen_send, changes_send, outcome_send, slots_send, shared_send) depth 60

held_send : IsSend held.the_row
held_send = search (sendable, crosses, guess_send) depth 60

spent_send : IsSend spent.the_row
spent_send = search (sendable, crosses, step_send, seen_send, changes_send) depth 60

remains_send : IsSend remains.the_row
remains_send = search (sendable, crosses, step_send, seen_send, changes_send) depth 60

mark_send : IsSend mark.the_row
mark_send = search (sendable, crosses) depth 60

board_send : IsSend board.the_row
board_send = search (sendable, crosses, step_send, world_send, outcome_send, mark_send, held_send, remains_send, stamps_send, luck_send, count_send) depth 60

phantom_send : (J : RattleType) → IsSend (PhantomData.the_row J)
phantom_send J = search (sendable, crosses) depth 60

tied_send : (J : RattleType) (g : Run.Ghosts J.Denot) → IsSend J → IsSend (tied.the_row J g)
tied_send J g s = declared_send (tied.the_type J g) (as_row_send board.the_field board_send, (phantom_send J, tt))

pub shared_sync : (J : RattleType) (g : Run.Ghosts J.Denot) → IsSend J → IsSync (shared.the_row J g)
shared_sync J g s = let t = tied_send J g s in search (sendable, crosses, t) depth 60

-- what a worker is lent: the runtime, the allocator, the gate, the board, the claims and the steps; its seat, how many positions it claims at once, how far ahead it goes, and its number
abbrev Lent : (J G R : RattleType) → Run.Ghosts J.Denot → (runtime gate board claims steps : NamedLft) → List RattleType
Lent J G R g a b c d e =
    (shr_ref_field a (param.param 2 R) tt).row ∷ Global.the_row ∷ (shr_ref_field b (param.param 1 G) tt).row
    ∷ (shr_ref_field c (shared.the_row (param.param 0 J) g) tt).row ∷ (shr_ref_field d claims.the_row tt).row
    ∷ seat.the_row ∷ (shr_slice_field e step.the_row tt).row ∷ u64-field.row ∷ u64-field.row ∷ u64-field.row ∷ []

pub worker_send : (J G R : RattleType) (g : Run.Ghosts J.Denot) (n : Sym) (a b c d e : NamedLft)
    → IsSend (param.param 0 J) → IsSync (param.param 1 G) → IsSync (param.param 2 R) → IsSend (TupleAt n (Lent J G R g a b c d e))
worker_send J G R g n a b c d e j gate runtime =
    let board = shared_sync (param.param 0 J) g j in
    declared_send (type_at n (Lent J G R g a b c d e)) (
      (search (sendable, crosses, runtime) depth 60),
      (
        (search (sendable, crosses, as_row_send) depth 60),
        (
          (search (sendable, crosses, gate) depth 60),
          (
            (search (sendable, crosses, board) depth 60),
            (
              (search (sendable, crosses, as_row_send, claims_sync) depth 60),
              (
                (search (sendable, crosses, as_row_send, seat_send) depth 60),
                (
                  (search (sendable, crosses, as_row_send, step_sync) depth 60),
                  ((search (sendable, crosses) depth 60), ((search (sendable, crosses) depth 60), ((search (sendable, crosses) depth 60), tt))),
                ),
              ),
            ),
          ),
        ),
      ),
    )

-- ---- lanes

told_send : IsSend told.the_row
told_send = search (sendable, crosses, outcome_send) depth 60

lane_send : IsSend lane.the_row
lane_send = search (sendable, crosses, told_send, changes_send) depth 60

ran_send : (J : RattleType) (g : Run.Ghosts J.Denot) → IsSend J → IsSend (ran.the_row J g)
ran_send J g s = view_send _ _ _ _ _ (declared_send (inside.the_type J g) ((search (sendable, crosses, lane_send) depth 60), (phantom_send J, tt)))

bench_sync : (J : RattleType) (g : Run.Ghosts J.Denot) → IsSend J → IsSync (bench.the_row J g)
bench_sync J g s =
    let t = ran_send J g s in
    let v = Vec-send (ran.the_row J g) t in declared_sync (bench.the_type J g) ((search (sendable, crosses) depth 60), ((search (sendable, crosses, v) depth 60), tt))

-- what a lane's thread is lent: the runtime, the allocator, the snapshot, the steps, their colors, the lane's number, and the bench
abbrev LentToLane : (J R : RattleType) → Run.Ghosts J.Denot → (runtime home steps colors bench : NamedLft) → List RattleType
LentToLane J R g a b c d e =
    (shr_ref_field a (param.param 1 R) tt).row ∷ Global.the_row ∷ (shr_ref_field b snapshot.the_row tt).row ∷ (shr_slice_field c step.the_row tt).row
    ∷ (shr_slice_field d u8-field.row tt).row ∷ u64-field.row ∷ (shr_ref_field e (bench.the_row (param.param 0 J) g) tt).row ∷ []

pub lane_thread_send : (J R : RattleType) (g : Run.Ghosts J.Denot) (n : Sym) (a b c d e : NamedLft)
    → IsSend (param.param 0 J) → IsSync (param.param 1 R) → IsSend (TupleAt n (LentToLane J R g a b c d e))
lane_thread_send J R g n a b c d e j runtime =
    let shared = bench_sync (param.param 0 J) g j in
    declared_send (type_at n (LentToLane J R g a b c d e)) (
      (search (sendable, crosses, runtime) depth 60),
      (
        (search (sendable, crosses, as_row_send) depth 60),
        (
          (search (sendable, crosses, as_row_send, snapshot_sync) depth 60),
          (
            (search (sendable, crosses, as_row_send, step_sync) depth 60),
            ((search (sendable, crosses) depth 60), ((search (sendable, crosses) depth 60), ((search (sendable, crosses, shared) depth 60), tt))),
          ),
        ),
      ),
    )
