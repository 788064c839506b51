use denote.Param.Send.{sendable}
use Rattle.std.proofs.Common.{ℕ, ℤ, List, max, ap, ◌∙◌, ◌<◌, string_bytes, arith}
use Rattle.std.proofs.Crossing.{crosses}
use Rattle.std.specs.List.{flat_map}
use Rattle.rayon.specs.Lists.{chunks_of, chunks_size, chunks_slice, min_len_base}
use Rattle.world.proofs.Crossing.{snapshot_sync}
use Rattle.checkpoint_text.specs.Parts.{objects_text}
use Rattle.checkpoint_text.proofs.Crossing.{shortcut_sync}
use Rattle.checkpoint_text.proofs.Gathered.{all_gathered}
use Rattle.checkpoint_text.proofs.Pieces.{objects_in_pieces}
use Rattle.checkpoint_text.proofs.by_threads.pieces.Goals as goal

pub map-requires-send-F : goal.map-requires-send-F
map-requires-send-F g c κs within = search (sendable, crosses, snapshot_sync, shortcut_sync) depth 60

pub map-requires-sync-F : goal.map-requires-sync-F
map-requires-sync-F g c κs within = search (sendable, crosses, snapshot_sync, shortcut_sync) depth 60

pub collect-requires-send-Self : goal.collect-requires-send-Self
collect-requires-send-Self g c κs within = search (sendable, crosses, snapshot_sync, shortcut_sync) depth 60

pub returns : goal.returns
returns g c =
    let w = c.args.snapshot.now in
    let ks = c.args.numbers.now in
    let text = objects_text w in
    let h = c.in_ok-collect.ensures in
    let chain = h.1 in
    let cut =
    chain.1 ∙ ap (λ it. chunks_of (max (chunks_size (min_len_base it)) 1) (chunks_slice (min_len_base it))) c.map.ensures.base
    ∙ ap (λ it. chunks_of (max (chunks_size it) 1) (chunks_slice it)) c.with_min_len.ensures.base
    ∙ ap (λ (n : ℕ). chunks_of (max n 1) (chunks_slice c.par_chunks.result)) c.par_chunks.ensures.size
    ∙ ap (λ (js : List ℤ). chunks_of (max c.piece_size-size.result 1) js) c.par_chunks.ensures.slice in
    let some : 0 < max c.piece_size-size.result 1 = omega arith in
    all_gathered _ text (λ b. b.now) (λ t. string_bytes t) _ (λ x v e. rw c.map.ensures.f at e) c.in_ok-collect.field-0 (λ v. v.items) chain.0 h.0 chain.2 h.2
    (text ks) (ap (λ kss. flat_map text kss) cut ∙ objects_in_pieces w (max c.piece_size-size.result 1) ks some)
