use Rattle.std.proofs.Common.{◌≡◌, ◌∙◌, ◌++◌, ◌∷◌, [], ℕ, List, All, sym, ap, subst}
use Rattle.std.proofs.lemmas.List.Elements.{All-push}
use Rattle.speculate.specs.declared.guesses.Guess.{Guess}
use Rattle.speculate.proofs.crew.note.Goals as goal

pub returns-then-is_ok : goal.returns-then-is_ok
returns-then-is_ok c w same h =
    let P : ℕ × Guess → Type 0 = λ f. f.1.before ≡ w in
    let items : c.push_reserved.new.self.items ≡ c.args.found.now.items ++ (c.args.at, c.args.guess) ∷ [] = c.push_reserved.ensures.items ∙ ap (λ (xs : List (ℕ × Guess)). xs ++ (c.args.at, c.args.guess) ∷ []) c.reserve.ensures.items in
    subst (All P) (sym items) (All-push P c.args.found.now.items (c.args.at, c.args.guess) h same)
