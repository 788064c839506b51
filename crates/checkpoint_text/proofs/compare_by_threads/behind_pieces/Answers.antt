use Rattle.std.proofs.Common.{◌≡◌, suc, ◌+◌, List, ◌∷◌, ◌++◌, drop, string_bytes, String, Global, sym, ap, subst, ◌∙◌, add-one}
use Rattle.std.specs.List.{flat_map}
use Rattle.std.proofs.Math.Seq.{drop-cons}
use Rattle.std.proofs.lemmas.List.Concat.{flat_map-cons}
use Rattle.spec_value.specs.Datum.{Text}
use Rattle.checkpoint_text.specs.Behind.{BeginsOtherwise}
use Rattle.checkpoint_text.proofs.Behind.{next_part, no_part}
use Rattle.checkpoint_text.proofs.compare_by_threads.behind_pieces.Goals as goal

abbrev all : List (String Global) → Text
all pieces = flat_map (λ t. string_bytes t) pieces

pub returns-in-None : goal.returns-in-None
returns-in-None c =
    let ps = c.args.pieces.now in
    let i = c.loop-piece.piece-index in
    let piece = c.piece-item.result in
    let first : drop i ps ≡ piece ∷ drop (suc i) ps = drop-cons ps i piece c.loop-piece-test.true ∙ ap (λ p. p ∷ drop (suc i) ps) (sym c.piece-item.is) in
    let next : all (drop i ps) ≡ string_bytes piece ++ all (drop (i + 1) ps) =
    ap all first ∙ flat_map-cons (λ t. string_bytes t) piece (drop (suc i) ps) ∙ ap (λ n. string_bytes piece ++ all (drop n ps)) (sym (add-one i)) in
    let text : c.as_bytes.result.now ≡ string_bytes piece = c.as_bytes.ensures.value ∙ c.as_str.ensures.value in
    no_part (all ps) (all (drop i ps)) (string_bytes piece) (all (drop (i + 1) ps)) c.args.bytes.now c.loop-piece.left.now next
    (subst (λ t. BeginsOtherwise t c.loop-piece.left.now) text c.in-None.ensures) c.loop-piece.invariant

pub loop-piece-preserved : goal.loop-piece-preserved
loop-piece-preserved c =
    let ps = c.args.pieces.now in
    let i = c.loop-piece.piece-index in
    let piece = c.piece-item.result in
    let first : drop i ps ≡ piece ∷ drop (suc i) ps = drop-cons ps i piece c.loop-piece-test.true ∙ ap (λ p. p ∷ drop (suc i) ps) (sym c.piece-item.is) in
    let next : all (drop i ps) ≡ string_bytes piece ++ all (drop (i + 1) ps) =
    ap all first ∙ flat_map-cons (λ t. string_bytes t) piece (drop (suc i) ps) ∙ ap (λ n. string_bytes piece ++ all (drop n ps)) (sym (add-one i)) in
    let text : c.as_bytes.result.now ≡ string_bytes piece = c.as_bytes.ensures.value ∙ c.as_str.ensures.value in
    next_part (all ps) (all (drop i ps)) (string_bytes piece) (all (drop (i + 1) ps)) c.args.bytes.now c.loop-piece.left.now c.in-Some.rest.now next
    (c.in-Some.ensures ∙ ap (λ t. t ++ c.in-Some.rest.now) text) c.loop-piece.invariant
