-- What the end of a reader says of the text.
use Rattle.std.proofs.Common.{◌≡◌, ℕ, Bool, true, false, List, [], ◌∷◌, Option, Some, None, Result, refl, sym, ap, ◌∙◌, subst}
use Rattle.spec_program.specs.Tree.{Program}
use Rattle.spec_program.specs.Tokens as meant
use Rattle.spec_program.specs.Reading.{got}
use Rattle.spec_program.specs.ReadPrograms as by
use Rattle.spec_program.specs.ReadPrograms.{FoundBlock, at_fault, too_deep, parsed_by}
use Rattle.spec_reader.specs.Next.{Next, goes}
use Rattle.spec_reader.specs.Whole.{come_out, outcome}
use Rattle.moo_token.specs.declared.fault.TokenFault.{TokenFault}
use Rattle.moo_token.specs.declared.token.Placed.{Placed}
use Rattle.moo_token.specs.Tokens as t
use Rattle.moo_token.specs.Tokens.{Ending}
use Rattle.moo_token.specs.Views.{token_of, places, ending_of}
use Rattle.moo_token.specs.Meaning.{fault_meant, token_meant, ending_meant, all_meant}
use Rattle.moo_reader.specs.declared.block.Block.{Block}
use Rattle.moo_reader.specs.BlockViews.{block_found}
use Rattle.syntax_fault.specs.declared.fault.FaultKind.{FaultKind}
use Rattle.syntax_fault.specs.declared.fault.SyntaxFault.{SyntaxFault}
use Rattle.syntax_fault.specs.Meaning.{kind_meant, OfKind, IsFault}
use Rattle.moo_syntax.specs.Answer.{IsAnswer, is_end, got_or_stuck}
use Rattle.moo_syntax.specs.Given.{next_line, block_if}

-- a token that is one has no fault of its own
fits_nothing : (x : t.Token) → by.kind_of (token_meant x) ≡ meant.token
fits_nothing (t.identifier w) = refl
fits_nothing (t.keyword k) = refl
fits_nothing (t.error_name e) = refl
fits_nothing (t.integer n) = refl
fits_nothing (t.object minus n) = refl
fits_nothing (t.text s) = refl
fits_nothing (t.mark s) = refl

pub at_token : (ps : List Placed) (e : Ending) (line : ℕ) (all : List meant.Placed) → Some line ≡ next_line ps
    → by.fault_at all (all_meant (places ps) e) ≡ at_fault meant.token line
at_token [] e line all h = absurd (cc)
at_token (p ∷ ps) e line all h =
    let l : p.line ≡ line = cc in
    ap (λ k. at_fault k p.line) (fits_nothing (token_of p.token)) ∙ ap (at_fault meant.token) l

pub at_ending : (ps : List Placed) (e : Ending) → None ≡ next_line ps → all_meant (places ps) e ≡ ending_meant e
at_ending [] e h = refl
at_ending (p ∷ ps) e h = absurd (cc)

-- a token that is none, or the end
pub bad_ending : (fault : Option TokenFault) (f : TokenFault) (k : FaultKind) (all : List meant.Placed) → fault ≡ Some f
    → kind_meant k ≡ Some (fault_meant f.kind) → IsFault (record { kind = k; line = f.line }) (by.fault_at all (ending_meant (ending_of fault)))
bad_ending None f k all h e = absurd (cc)
bad_ending (Some g) f k all h e =
    let same : g ≡ f = cc in
    subst (λ x. IsFault (record { kind = k; line = f.line }) (at_fault (fault_meant x.kind) x.line)) (sym same)
    (subst (λ o. OfKind o f.line (at_fault (fault_meant f.kind) f.line)) (sym e) refl)

pub no_ending : (fault : Option TokenFault) (last : ℕ) (all : List meant.Placed) → fault ≡ None → by.last_line all ≡ last
    → by.fault_at all (ending_meant (ending_of fault)) ≡ at_fault meant.token last
no_ending None last all h e = ap (at_fault meant.token) e
no_ending (Some f) last all h e = absurd (cc)

-- ---- of a block that was found

pub at_the_end : (all ts : List meant.Placed) (p : FoundBlock) (e : Bool) (r : Result Program SyntaxFault) → e ≡ is_end ts → e ≡ true
    → IsAnswer r (by.tested p (too_deep p.nodes)) → IsAnswer r (parsed_by all (got p ts))
at_the_end all [] p e r h i a = a
at_the_end all (q ∷ ts) p e r h i a = absurd (cc)

pub before_the_end : (all ts : List meant.Placed) (p : FoundBlock) (e : Bool) (x : SyntaxFault) → e ≡ is_end ts → e ≡ false
    → IsFault x (by.fault_at all ts) → IsFault x (parsed_by all (got p ts))
before_the_end all [] p e x h i f = absurd (cc)
before_the_end all (q ∷ ts) p e x h i f = f

-- ---- of what has come out

pub block_came_out : (all ts : List meant.Placed) (n : Next) (o : Option Block) (b : Block) (r : Result Program SyntaxFault) → o ≡ Some b
    → ((us : List meant.Placed) → come_out n us ≡ got_or_stuck (block_if o) us) → IsAnswer r (parsed_by all (got (block_found b) ts))
    → IsAnswer r (outcome all (goes n ts))
block_came_out all ts n o b r e h a =
    subst (λ x. IsAnswer r (parsed_by all x)) (sym (h ts ∙ ap (λ c. got_or_stuck (block_if c) ts) e)) a

pub nothing_came_out : (all ts : List meant.Placed) (n : Next) (o : Option Block) (x : SyntaxFault) → o ≡ None
    → ((us : List meant.Placed) → come_out n us ≡ got_or_stuck (block_if o) us) → IsFault x (by.fault_at all ts)
    → IsFault x (outcome all (goes n ts))
nothing_came_out all ts n o x e h f =
    subst (λ y. IsFault x (parsed_by all y)) (sym (h ts ∙ ap (λ c. got_or_stuck (block_if c) ts) e)) f
