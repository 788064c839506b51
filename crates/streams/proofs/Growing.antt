-- What is read of streams grows: a piece after another of one stream, and a stream after another; what is written of a text grows likewise.
use Rattle.std.proofs.Common.{◌≡◌, ◌<◌, ◌+◌, ◌-◌, ℕ, List, [], ◌∷◌, ◌++◌, ◌∙◌, sym, ap, subst, append_assoc, append-nil, arith, get_or, set, length, map, take, drop}
use Rattle.std.proofs.lemmas.Grind.{common_steps}
use Rattle.std.proofs.lemmas.List.{map_more, map-set, length-map, get_or-map, get_or-set_same, get_or-drop, drop-set-lt, drop-drop}
use Rattle.std.proofs.Math.Seq.{take-add}
use Rattle.telnet_line.specs.Telnet.{Event, Spells}
use Rattle.telnet_line.specs.TelnetReading.{Reading, HasRead}
use Rattle.streams.specs.Reads.{ReadPart, EachSpells, Rises}

pub part_grows : (stream old new piece : List ℕ) (all all' es : List Event) (r r' : Reading) → old ≡ piece ++ new → all' ≡ all ++ es → ((s : List ℕ) (past : List Event) → HasRead s past r → HasRead (s ++ piece) (past ++ es) r') → ReadPart stream old all r → ReadPart stream new all' r'
part_grows stream old new piece all all' es r r' bytes given feeds part =
    record {
      past = part.past ++ piece;
      whole = append_assoc part.past piece new ∙ (ap (λ rest. part.past ++ rest) (sym bytes) ∙ part.whole);
      read = subst (λ e. HasRead (part.past ++ piece) e r') (sym given) (feeds part.past all part.read);
    }

-- a stream that was read to its end
pub part_ends : (stream left : List ℕ) (all : List Event) (r : Reading) → left ≡ [] → ReadPart stream left all r → Spells stream all
part_ends stream left all r ended part =
    subst (λ s. Spells s all) (sym (append-nil part.past) ∙ (ap (λ rest. part.past ++ rest) (sym ended) ∙ part.whole)) part.read.spells

pub written_more : (old mid new text : List ℕ) (at count : ℕ) → mid ≡ old ++ take at text → new ≡ mid ++ take count (take (length text - at) (drop at text)) → new ≡ old ++ take (at + count) text
written_more old mid new text at count before bytes =
    grind (arith, common_steps, take-add)

pub each_more : (ss : List (List ℕ)) (ess : List (List Event)) (s : List ℕ) (es : List Event) → EachSpells ss ess → Spells s es → EachSpells (ss ++ s ∷ []) (ess ++ es ∷ [])
each_more [] [] s es each one = (one, tt)
each_more (s' ∷ ss) (es' ∷ ess) s es each one = (each.0, each_more ss ess s es each.1 one)
each_more [] (es' ∷ ess) s es each one = absurd each
each_more (s' ∷ ss) [] s es each one = absurd each

pub same_at : {S : Type 0} (old now : List S) (at : ℕ) (d : S) → drop at now ≡ drop at old → get_or now at d ≡ get_or old at d
same_at old now at d rest =
    let z : at + 0 ≡ at = omega arith in
    ap (λ k. get_or now k d) (sym z) ∙ (sym (get_or-drop at now 0 d) ∙ (ap (λ xs. get_or xs 0 d) rest ∙ (get_or-drop at old 0 d ∙ ap (λ k. get_or old k d) z)))

pub spelled_more : {S : Type 0} (left : S → List ℕ) (old now : List S) (at : ℕ) (d : S) (ess all : List (List Event)) (es : List Event) → at < length old → drop at now ≡ drop at old → all ≡ ess ++ es ∷ [] → EachSpells (map left (take at old)) ess → Spells (left (get_or now at d)) es → EachSpells (map left (take (at + 1) old)) all
spelled_more left old now at d ess all es below rest given each one =
    subst (λ ss. EachSpells ss all) (sym (map_more left old at d below))
    (subst (λ e. EachSpells (map left (take at old) ++ left (get_or old at d) ∷ []) e) (sym given)
    (each_more (map left (take at old)) ess (left (get_or old at d)) es each (subst (λ x. Spells (left x) es) (same_at old now at d rest) one)))

-- what is left after one more is the same, whatever that one has become
pub rest_stays : {S : Type 0} (old now : List S) (at : ℕ) (x : S) → drop at now ≡ drop at old → drop (at + 1) (set now at x) ≡ drop (at + 1) old
rest_stays old now at x rest =
    drop-set-lt (at + 1) now at x (omega arith) ∙ (sym (drop-drop 1 at now) ∙ (ap (λ xs. drop 1 xs) rest ∙ drop-drop 1 at old))

-- the count of the one that was changed has risen, and no other's
pub rises : {S : Type 0} (f : S → ℕ) (old now : List S) (at n : ℕ) (d x : S) → at < length old → at < length now → drop at now ≡ drop at old → n ≡ at + 1 → f x ≡ f (get_or now at d) + 1 → Rises n (map f old) (map f (set now at x))
rises f old now at n d x below below' rest number risen = (
  at,
  number,
  subst (λ k. at < k) (sym (length-map old f)) below,
  ap (λ xs. get_or xs at 0) (map-set f now at x)
      ∙ (get_or-set_same (map f now) at (f x) 0 (subst (λ k. at < k) (sym (length-map now f)) below')
      ∙ (risen ∙ ap (λ k. k + 1) (ap f (same_at old now at d rest) ∙ sym (get_or-map f old at d 0 below)))),
)
