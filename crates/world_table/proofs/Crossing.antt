-- Places and tables may go to other threads, and be lent to them, where their records may do both.
use denote.Param.Send.{IsSend, IsSync, recorded_send, recorded_sync, sendable}
use denote.Model.Goals.{has_of, part_has, both_laws, All, All-both_laws, tied_goals, send, sync}
use denote.Param.SendFields.{as_row_send, as_row_sync, declared_send, declared_sync, variants_send, variants_sync}
use denote.RattleType.{RattleType}
use denote.Struct.Field.{row_field}
use denote.Model.Cut.{split_one}
use denote.Model.Local.{Parts, rows}
use Rattle.std.proofs.Crossing.{crosses}
use Rattle.std.specs.contracts.sync.Arc as Arc
use Rattle.std.specs.contracts.vec.Vec as Vec
use Rattle.std.specs.contracts.alloc.Global as Global
use Rattle.std.specs.contracts.impls.GlobalAllocator.TheImpl.{ghosts}
use Rattle.world_table.specs.declared.place.Held.{Held}
use Rattle.world_table.specs.declared.place.Place.TheDeep.{the_members, member-Place, split-Place, join-Place, joins-Place, split-Held, join-Held, joins-Held}
use Rattle.world_table.specs.declared.place.Place.TheInside.{Inside}
use Rattle.world_table.specs.contracts.place.Place.TheKnot as knot
use Rattle.world_table.specs.contracts.place.Place as place
use Rattle.world_table.specs.contracts.table.Table as table

module _ (T : RattleType) (t_send : IsSend T) (t_sync : IsSync T) where
  record_send : IsSend (Arc.the_row T Global.the_row ghosts)
  record_send = search (sendable, crosses, t_send, t_sync) depth 60

  record_sync : IsSync (Arc.the_row T Global.the_row ghosts)
  record_sync = search (sendable, crosses, t_send, t_sync) depth 60

  abbrev Places : Parts (knot.frame T) → RattleType
  Places p = Vec.the_row (rows (knot.frame T) p member-Place) Global.the_row ghosts

  abbrev Block : Parts (knot.frame T) → RattleType
  Block p = Arc.the_row (Places p) Global.the_row ghosts

  places_send : (p : Parts (knot.frame T)) → IsSend (rows (knot.frame T) p member-Place) → IsSend (Places p)
  places_send p a = search (sendable, crosses, a) depth 60

  places_sync : (p : Parts (knot.frame T)) → IsSync (rows (knot.frame T) p member-Place) → IsSync (Places p)
  places_sync p a = search (sendable, crosses, a) depth 60

  block_send : (p : Parts (knot.frame T)) → IsSend (rows (knot.frame T) p member-Place) → IsSync (rows (knot.frame T) p member-Place) → IsSend (Block p)
  block_send p a b = let c = places_send p a in let d = places_sync p b in search (sendable, crosses, c, d) depth 60

  block_sync : (p : Parts (knot.frame T)) → IsSend (rows (knot.frame T) p member-Place) → IsSync (rows (knot.frame T) p member-Place) → IsSync (Block p)
  block_sync p a b = let c = places_send p a in let d = places_sync p b in search (sendable, crosses, c, d) depth 60

  at_held_send : (p : Parts (knot.frame T)) → IsSend (rows (knot.frame T) p member-Place) → IsSync (rows (knot.frame T) p member-Place) → IsSend (knot.at-Held T p)
  at_held_send p a b = recorded_send _ _ _ (split_one (knot.layer-Held T (rows (knot.frame T) p member-Place)) (Held T.Denot) (split-Held T.Denot) (join-Held T.Denot) (joins-Held T.Denot)) (variants_send (knot.type-Held T (rows (knot.frame T) p member-Place)) (tt, (((search (sendable, crosses, as_row_send, record_send) depth 60), tt), (((search (sendable, crosses, as_row_send) depth 60), (as_row_send (row_field (Block p)) (block_send p a b), tt)), tt))))

  at_held_sync : (p : Parts (knot.frame T)) → IsSend (rows (knot.frame T) p member-Place) → IsSync (rows (knot.frame T) p member-Place) → IsSync (knot.at-Held T p)
  at_held_sync p a b = recorded_sync _ _ _ (split_one (knot.layer-Held T (rows (knot.frame T) p member-Place)) (Held T.Denot) (split-Held T.Denot) (join-Held T.Denot) (joins-Held T.Denot)) (variants_sync (knot.type-Held T (rows (knot.frame T) p member-Place)) (tt, (((search (sendable, crosses, as_row_sync, record_sync) depth 60), tt), (((search (sendable, crosses, as_row_sync) depth 60), (as_row_sync (row_field (Block p)) (block_sync p a b), tt)), tt))))

  at_place_send : (p : Parts (knot.frame T)) → IsSend (knot.at-Held T p) → IsSend (knot.at-Place T p)
  at_place_send p a = recorded_send _ _ _ (split_one (knot.layer-Place T (knot.at-Held T p)) (Inside T.Denot) (split-Place T.Denot) (join-Place T.Denot) (joins-Place T.Denot)) (declared_send (knot.type-Place T (knot.at-Held T p)) (as_row_send (row_field (knot.at-Held T p)) a, tt))

  at_place_sync : (p : Parts (knot.frame T)) → IsSync (knot.at-Held T p) → IsSync (knot.at-Place T p)
  at_place_sync p a = recorded_sync _ _ _ (split_one (knot.layer-Place T (knot.at-Held T p)) (Inside T.Denot) (split-Place T.Denot) (join-Place T.Denot) (joins-Place T.Denot)) (declared_sync (knot.type-Place T (knot.at-Held T p)) (as_row_sync (row_field (knot.at-Held T p)) a, tt))

  view_sent : (p : Parts (knot.frame T)) → IsSend (knot.at-Place T p) → IsSend (knot.view-Place T p)
  view_sent p a = search (sendable, a) depth 60

  view_shared : (p : Parts (knot.frame T)) → IsSync (knot.at-Place T p) → IsSync (knot.view-Place T p)
  view_shared p a = search (sendable, a) depth 60

  step_send : (p : Parts (knot.frame T)) → ((j : the_members) → IsSend (rows (knot.frame T) p j)) → ((j : the_members) → IsSync (rows (knot.frame T) p j)) → (i : the_members) → IsSend (rows (knot.frame T) (knot.step T p) i)
  step_send p s y member-Place = has_of (knot.frame T) send (knot.step T p) member-Place (part_has send (knot.view-Place T p) (view_sent p (at_place_send p (at_held_send p (s member-Place) (y member-Place)))))

  step_sync : (p : Parts (knot.frame T)) → ((j : the_members) → IsSend (rows (knot.frame T) p j)) → ((j : the_members) → IsSync (rows (knot.frame T) p j)) → (i : the_members) → IsSync (rows (knot.frame T) (knot.step T p) i)
  step_sync p s y member-Place = has_of (knot.frame T) sync (knot.step T p) member-Place (part_has sync (knot.view-Place T p) (view_shared p (at_place_sync p (at_held_sync p (s member-Place) (y member-Place)))))

  goals : All (both_laws the_members) (rows (knot.frame T) (knot.tied T))
  goals = tied_goals (knot.frame T) (knot.step T) (knot.sizes T) (both_laws the_members) (λ p all. All-both_laws (rows (knot.frame T) (knot.step T p)) (step_send p (λ j. all (j, send)) (λ j. all (j, sync))) (step_sync p (λ j. all (j, send)) (λ j. all (j, sync))))

  pub place_send : IsSend (place.the_row T)
  place_send = goals (member-Place, send)

  pub place_sync : IsSync (place.the_row T)
  place_sync = goals (member-Place, sync)

  pub table_send : (levels : RattleType) → IsSend (table.the_row T levels)
  table_send levels = search (sendable, crosses, place_send) depth 60

  pub table_sync : (levels : RattleType) → IsSync (table.the_row T levels)
  table_sync levels = search (sendable, crosses, place_sync) depth 60
