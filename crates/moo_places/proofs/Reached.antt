-- The path of pieces leads to their construct.
use Rattle.std.proofs.Common.{◌≡◌, ℕ, zero, suc, ◌+◌, List, [], ◌∷◌, ◌++◌, Option, Some, None, refl, ap, sym, ◌∙◌, arith, append_assoc}
use Rattle.std.proofs.lemmas.List.{append-nil}
use Rattle.spec_program.specs.Tree.{Program}
use Rattle.spec_program.specs.Construct.{Construct, of_program, Piece}
use Rattle.spec_program.specs.Place.{Linked}
use Rattle.moo_code.specs.Layout.{outermost, layout, size, entry, front}
use Rattle.moo_code.specs.Stands.{body, front_of, link_of, part_of, start}
use Rattle.moo_code.specs.Paths.{path_of}
use Rattle.moo_code.proofs.Points.{piece, start_is, code_same}
use Rattle.moo_code.proofs.Rows.Every.{every_construct_fits}
use Rattle.moo_places.specs.Reaching.{in_chunk, last_at_path, PathIsReached}

reached_on : (p : Program) (c : Construct) (ps : List Piece) → Linked c ps (of_program p) → (more : List ℕ)
    → last_at_path (path_of ps ++ more) 0 (layout outermost (of_program p)) ≡ last_at_path more (start ps) (body ps c)
reached_on p c [] h more = ap (λ z. last_at_path more 0 (layout outermost z)) (sym h)
reached_on p c (q ∷ ps) h more =
    let r = piece every_construct_fits ps q c h.0 in
    let l = body ps q.construct in
    let b = start ps + (entry q.part l + front_of (link_of q.part l)) in
    ap (λ path. last_at_path path 0 (layout outermost (of_program p))) (append_assoc (path_of ps) (q.part ∷ []) more) ∙ reached_on p q.construct ps h.1 (q.part ∷ more)
    ∙ ap (λ a. in_chunk a (λ a. last_at_path more b a)) r.code_is
    ∙ ap (last_at_path more b) (code_same every_construct_fits p q ps c h.0)

pub path_is_reached : PathIsReached
path_is_reached p c ps h = ap (λ path. last_at_path path 0 (layout outermost (of_program p))) (sym (append-nil (path_of ps))) ∙ reached_on p c ps h []
