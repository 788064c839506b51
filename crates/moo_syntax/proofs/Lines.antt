-- The lines of the last token and of the first loop's name that is none.
use Rattle.std.proofs.Common.{◌≡◌, ℕ, suc, ◌+◌, ◌<◌, ◌≤◌, List, [], ◌∷◌, ◌++◌, length, map, drop, get_or, reverse, Option, Some, None, refl, sym, ap, ◌∙◌, add-one}
use Rattle.std.proofs.Math.Seq.{drop-cons}
use Rattle.std.proofs.Math.ListN.{drop_of_length-le}
use Rattle.std.proofs.lemmas.List.{reverse-append}
use Rattle.spec_program.specs.ReadPrograms as by
use Rattle.spec_program.specs.ReadPrograms.{last_line}
use Rattle.spec_program.specs.Tokens.{bad}
use Rattle.spec_program.proofs.TextMovesHold.{last_is}
use Rattle.moo_token.specs.declared.fault.TokenFault.{TokenFault}
use Rattle.moo_token.specs.declared.token.Placed.{Placed}
use Rattle.moo_token.specs.Views.{places, ending_of}
use Rattle.moo_token.specs.Meaning.{fault_meant, place_meant, all_meant}
use Rattle.moo_reader.specs.declared.block.Stray.{Stray}
use Rattle.moo_reader.specs.BlockViews.{stray_of, strays_of}
use Rattle.moo_syntax.specs.Answer.{first_line}

first_left : {X : Type 0} (xs : List X) (i : ℕ) (x : X) → i < length xs → x ≡ get_or xs i x → drop i xs ≡ x ∷ drop (i + 1) xs
first_left xs i x h e = drop-cons xs i x h ∙ ap (λ y. y ∷ drop (suc i) xs) (sym e) ∙ ap (λ j. x ∷ drop j xs) (sym (add-one i))

-- ---- the last token's line

pub last_from : ℕ → List Placed → ℕ
last_from n [] = n
last_from n (p ∷ ps) = last_from p.line ps

last_of_some : (p : Placed) (ps : List Placed) → last_from p.line ps ≡ last_line (map place_meant (places (p ∷ ps)))
unfolding last_from
last_of_some p [] = refl
last_of_some p (q ∷ ps) = last_of_some q ps

pub no_line_yet : (ps : List Placed) → last_from 1 (drop 0 ps) ≡ last_line (map place_meant (places ps))
unfolding last_from
no_line_yet [] = refl
no_line_yet (p ∷ ps) = last_of_some p ps

pub one_line_on : (ps : List Placed) (i n : ℕ) (p : Placed) → i < length ps → p ≡ get_or ps i p
    → last_from p.line (drop (i + 1) ps) ≡ last_from n (drop i ps)
unfolding last_from
one_line_on ps i n p h e = sym (ap (last_from n) (first_left ps i p h e))

pub no_line_left : (ps : List Placed) (i n : ℕ) → length ps ≤ i → n ≡ last_from n (drop i ps)
unfolding last_from
no_line_left ps i n h = sym (ap (last_from n) (drop_of_length-le ps h))

pub line_of_fault : (ps : List Placed) (o : Option TokenFault) (f : TokenFault) → o ≡ Some f → f.line ≡ last_line (all_meant (places ps) (ending_of o))
line_of_fault ps None f h = absurd (cc)
line_of_fault ps (Some g) f h =
    let same : f.line ≡ g.line = cc in
    same ∙ sym (last_is (map place_meant (places ps)) (record { token = bad (fault_meant g.kind); line = g.line }))

-- ---- strays are kept the last one first

pub first_from : Option ℕ → List Stray → Option ℕ
first_from o [] = o
first_from o (s ∷ ss) = first_from (Some s.line) ss

line_or : Option ℕ → List by.Stray → Option ℕ
line_or o [] = o
line_or o (s ∷ ss) = Some s.line

one_behind : (o : Option ℕ) (ss : List by.Stray) (s : by.Stray) → line_or o (ss ++ s ∷ []) ≡ line_or (Some s.line) ss
unfolding line_or
one_behind o [] s = refl
one_behind o (r ∷ ss) s = refl

last_is_first : (o : Option ℕ) (ss : List Stray) → first_from o ss ≡ line_or o (reverse (map stray_of ss))
unfolding first_from line_or
last_is_first o [] = refl
last_is_first o (s ∷ ss) =
    last_is_first (Some s.line) ss ∙ sym (one_behind o (reverse (map stray_of ss)) (stray_of s))
    ∙ ap (line_or o) (sym (reverse-append (stray_of s ∷ []) (map stray_of ss)))

none_or : (ss : List by.Stray) → line_or None ss ≡ first_line ss
unfolding line_or
none_or [] = refl
none_or (s ∷ ss) = refl

pub no_stray_yet : (ss : List Stray) → first_from None (drop 0 ss) ≡ first_line (strays_of ss)
no_stray_yet ss = last_is_first None ss ∙ none_or (strays_of ss)

pub one_stray_on : (ss : List Stray) (i : ℕ) (o : Option ℕ) (s : Stray) → i < length ss → s ≡ get_or ss i s
    → first_from (Some s.line) (drop (i + 1) ss) ≡ first_from o (drop i ss)
unfolding first_from
one_stray_on ss i o s h e = sym (ap (first_from o) (first_left ss i s h e))

pub no_stray_left : (ss : List Stray) (i : ℕ) (o : Option ℕ) → length ss ≤ i → o ≡ first_from o (drop i ss)
unfolding first_from
no_stray_left ss i o h = sym (ap (first_from o) (drop_of_length-le ss h))
