use Rattle.std.proofs.Common.{◌≡◌, ◌∷◌, ◌++◌, [], List, length, String, Global, string_bytes, refl, sym, ap, ◌∙◌, append_assoc, append-nil, arith}
use Rattle.std.specs.List.{flat_map}
use Rattle.std.proofs.lemmas.List.Concat.{flat_map-cons}
use Rattle.std.specs.Vec.Iter.{into_iter_items}
use Rattle.spec_value.specs.Datum.{Text}
use Rattle.checkpoint_text.proofs.by_threads.put_pieces.Goals as goal

abbrev all : List (String Global) → Text
all pieces = flat_map (λ t. string_bytes t) pieces

nothing_left : (pieces : List (String Global)) → length pieces ≡ 0 → pieces ≡ []
nothing_left [] e = refl
nothing_left (piece ∷ pieces) e = absurd (omega (arith, e))

pub loop-piece-preserved : goal.loop-piece-preserved
loop-piece-preserved c =
    let l = c.loop-piece in
    let rest = into_iter_items c.next.new.self in
    let steps : into_iter_items l.piece-iterator ≡ c.in-Some.piece ∷ rest = c.in-Some.ensures.steps.0 in
    let wrote : c.put.new.self ≡ l.page ++ string_bytes c.in-Some.piece = c.in_ok-put.ensures ∙ ap (λ t. l.page ++ t) c.as_str.ensures.value in (
      ap (λ t. t ++ all rest) wrote ∙ append_assoc l.page (string_bytes c.in-Some.piece) (all rest)
          ∙ ap (λ t. l.page ++ t) (sym (flat_map-cons (λ t. string_bytes t) c.in-Some.piece rest) ∙ ap all (sym steps)) ∙ l.invariant.0,
      let was = l.invariant.1 in let gone = c.in-Some.ensures.steps.1 in let short = ap length steps in omega arith,
    )

pub returns : goal.returns
returns c =
    let l = c.loop-piece in
    let empty : into_iter_items l.piece-iterator ≡ [] = nothing_left _ (sym l.invariant.1 ∙ c.in-None.ensures.steps.0) in
    sym (append-nil l.page) ∙ ap (λ pieces. l.page ++ all pieces) (sym empty) ∙ l.invariant.0 ∙ ap (λ pieces. c.args.page.now ++ all pieces) c.into_iter-piece-iterator.ensures.into_iter_gives.0
