-- A script has one reading: its lines are cut at their line ends in one way, up to the end, to a faulty line or to a line without its end.
use Rattle.std.proofs.Common.{◌≡◌, ℕ, ◌+◌, ◌<◌, true, false, not, ◌&&◌, ◌==◌, IsTrue, List, [], ◌∷◌, ◌++◌, length, get_or, drop, Option, Some, None, refl, sym, ap, ◌∙◌, subst, arith, append_assoc}
use Rattle.std.specs.List.{list_all}
use Rattle.std.proofs.lemmas.Bool.{and_parts}
use Rattle.std.proofs.lemmas.Bool.Decides.{nat_tests}
use Rattle.std.proofs.lemmas.List.{ext_get_or}
use Rattle.spec_world.specs.Step.{Step}
use Rattle.moo_script.specs.declared.fault.LineFault.{LineFault}
use Rattle.moo_script.specs.declared.fault.LineFault.TheVariants as fault
use Rattle.moo_script.specs.declared.script.Command.{Command}
use Rattle.moo_script.specs.Keys.{is_hexadecimal, is_key, Spells}
use Rattle.moo_script.specs.Lines.{Says, IsFaulty}
use Rattle.moo_script.specs.Scripts.{is_one_line, GivesKey, AreLines, none, also, GiveSteps, IsScript, timeline, counted, BodyFault, faulty, no_end, Fault, no_key, no_key_alone, key_without_end, later}
use Rattle.moo_script.proofs.OneAnswer.{one_command, no_fault, one_fault}

-- ---- the first line end

abbrev inside : ℕ → List ℕ → Type 0
inside b bs = IsTrue (not (b == 10) && list_all (λ a. not (a == 10)) bs)

no_end_inside : (bs : List ℕ) → inside 10 bs → ⊥
no_end_inside bs h = let x : false ≡ true = h in cc

split_once : (l m r q : List ℕ) → IsTrue (is_one_line l) → IsTrue (is_one_line m) → l ++ 10 ∷ r ≡ m ++ 10 ∷ q → (l ≡ m) × (r ≡ q)
split_once [] [] r q h k e = (refl, ap (drop 1) e)
split_once [] (b ∷ m) r q h k e =
    let x : b ≡ 10 = ap (λ bs. get_or bs 0 0) (sym e) in
    let P : ℕ → Type 0 = λ n. inside n m in absurd (no_end_inside m (subst P x k))
split_once (a ∷ l) [] r q h k e =
    let x : a ≡ 10 = ap (λ bs. get_or bs 0 0) e in
    let P : ℕ → Type 0 = λ n. inside n l in absurd (no_end_inside l (subst P x h))
split_once (a ∷ l) (b ∷ m) r q h k e =
    let x : a ≡ b = ap (λ bs. get_or bs 0 0) e in
    let p = split_once l m r q (and_parts _ _ h).1 (and_parts _ _ k).1 (ap (drop 1) e) in
    (ap (λ n. n ∷ l) x ∙ ap (λ bs. b ∷ bs) p.0, p.1)

not_one_line : (l r : List ℕ) → IsTrue (is_one_line (l ++ 10 ∷ r)) → ⊥
not_one_line [] r h = no_end_inside r h
not_one_line (a ∷ l) r h = not_one_line l r (and_parts _ _ h).1

not_empty : (l r : List ℕ) → l ++ 10 ∷ r ≡ [] → ⊥
not_empty [] r e = cc
not_empty (a ∷ l) r e = cc

-- ---- lines from the front

-- lines that say these commands, and then the rest
abbrev Cut : List ℕ → List Command → List ℕ → Type 0
Cut bs [] rest = bs ≡ rest
Cut bs (c ∷ cs) rest = (line : List ℕ) × (more : List ℕ) × (bs ≡ line ++ 10 ∷ more) × IsTrue (is_one_line line) × Says line c × Cut more cs rest

widened : (bs : List ℕ) (cs : List Command) (rest : List ℕ) → Cut bs cs [] → Cut (bs ++ rest) cs rest
widened bs [] rest h = ap (λ x. x ++ rest) h
widened bs (c ∷ cs) rest (line, more, e, o, h, k) = (line, more ++ rest, ap (λ x. x ++ rest) e ∙ append_assoc line (10 ∷ more) rest, o, h, widened more cs rest k)

one_more : (bs : List ℕ) (cs : List Command) (line rest : List ℕ) (c : Command) → Cut bs cs (line ++ 10 ∷ rest) → IsTrue (is_one_line line) → Says line c → Cut bs (cs ++ c ∷ []) rest
one_more bs [] line rest c k o h = (line, rest, k, o, h, refl)
one_more bs (d ∷ ds) line rest c (first, more, e, p, i, k) o h = (first, more, e, p, i, one_more more ds line rest c k o h)

cut : {bs : List ℕ} {cs : List Command} → AreLines bs cs → Cut bs cs []
cut none = refl
cut (also {bs} {cs} a line c o h) = one_more (bs ++ (line ++ 10 ∷ [])) cs line [] c (widened bs cs (line ++ 10 ∷ []) (cut a)) o h

cut_before : (body past rest : List ℕ) (cs : List Command) → AreLines past cs → body ≡ past ++ rest → Cut body cs rest
cut_before body past rest cs a e = let P : List ℕ → Type 0 = λ b. Cut b cs rest in subst P (sym e) (widened past cs rest (cut a))

-- ---- where the reading stops

-- at the end, or at the first fault
data Stops (rest : List ℕ) : Option LineFault → Type 0 where
  at_end : rest ≡ [] → Stops rest None
  at_fault : (line more : List ℕ) (kind : LineFault) → rest ≡ line ++ 10 ∷ more → IsTrue (is_one_line line) → IsFaulty line kind → Stops rest (Some kind)
  at_open_line : 0 < length rest → IsTrue (is_one_line rest) → Stops rest (Some fault.Word)

says_nothing : (rest line more : List ℕ) (c : Command) (v : Option LineFault) → Stops rest v → rest ≡ line ++ 10 ∷ more → IsTrue (is_one_line line) → Says line c → ⊥
says_nothing rest line more c _ (at_end e) k o h = not_empty line more (sym k ∙ e)
says_nothing rest line more c _ (at_fault bad after kind e p f) k o h =
    let same = (split_once bad line after more p o (sym e ∙ k)).0 in
    let P : List ℕ → Type 0 = λ l. IsFaulty l kind in no_fault line c kind h (subst P same f)
says_nothing rest line more c _ (at_open_line n p) k o h = let P : List ℕ → Type 0 = λ r. IsTrue (is_one_line r) in not_one_line line more (subst P k p)

stops_once : (rest : List ℕ) (v u : Option LineFault) → Stops rest v → Stops rest u → v ≡ u
stops_once rest _ _ (at_end e) (at_end f) = refl
stops_once rest _ _ (at_end e) (at_fault line more kind f o i) = absurd (not_empty line more (sym f ∙ e))
stops_once rest _ _ (at_end e) (at_open_line n o) = let x : length rest ≡ 0 = ap length e in absurd (omega (arith, n, x))
stops_once rest _ _ (at_fault line more kind f o i) (at_end e) = absurd (not_empty line more (sym f ∙ e))
stops_once rest _ _ (at_fault line more kind f o i) (at_fault bad after other g p j) =
    let same = (split_once line bad more after o p (sym f ∙ g)).0 in
    let P : List ℕ → Type 0 = λ l. IsFaulty l kind in ap (λ k. Some k) (one_fault bad kind other (subst P same i) j)
stops_once rest _ _ (at_fault line more kind f o i) (at_open_line n p) = let P : List ℕ → Type 0 = λ r. IsTrue (is_one_line r) in absurd (not_one_line line more (subst P f p))
stops_once rest _ _ (at_open_line n o) (at_end e) = let x : length rest ≡ 0 = ap length e in absurd (omega (arith, n, x))
stops_once rest _ _ (at_open_line n o) (at_fault line more kind f p i) = let P : List ℕ → Type 0 = λ r. IsTrue (is_one_line r) in absurd (not_one_line line more (subst P f o))
stops_once rest _ _ (at_open_line n o) (at_open_line m p) = refl

stops_at : (r q : List ℕ) (v : Option LineFault) → r ≡ q → Stops r v → Stops q v
stops_at r q v e s = let P : List ℕ → Type 0 = λ x. Stops x v in subst P e s

one_cut : (bs : List ℕ) (cs ds : List Command) (r q : List ℕ) (v u : Option LineFault) → Cut bs cs r → Cut bs ds q → Stops r v → Stops q u → (cs ≡ ds) × (v ≡ u)
one_cut bs [] [] r q v u h k s t = (refl, stops_once q v u (stops_at r q v (sym h ∙ k) s) t)
one_cut bs [] (d ∷ ds) r q v u h (line, more, e, o, i, k) s t = absurd (says_nothing r line more d v s (sym h ∙ e) o i)
one_cut bs (c ∷ cs) [] r q v u (line, more, e, o, i, k) h s t = absurd (says_nothing q line more c u t (sym h ∙ e) o i)
one_cut bs (c ∷ cs) (d ∷ ds) r q v u (line, more, e, o, h, k) (other, after, f, p, i, j) s t =
    let same = split_once line other more after o p (sym e ∙ f) in
    let P : List ℕ → Type 0 = λ l. Says l c in
    let Q : List ℕ → Type 0 = λ m. Cut m cs r in
    let rest = one_cut after cs ds r q v u (subst Q same.1 k) j s t in
    (ap (λ x. x ∷ cs) (one_command other c d (subst P same.0 h) i) ∙ ap (λ xs. d ∷ xs) rest.0, rest.1)

-- ---- the lines behind the first one

-- what they say up to a stop
record Reading (body : List ℕ) (cs : List Command) (v : Option LineFault) : Type 0 where
  rest : List ℕ
  lines : Cut body cs rest
  stop : Stops rest v

one_reading : (body : List ℕ) (cs ds : List Command) (v u : Option LineFault) → Reading body cs v → Reading body ds u → (cs ≡ ds) × (v ≡ u)
one_reading body cs ds v u h k = one_cut body cs ds h.rest k.rest v u h.lines k.lines h.stop k.stop

read_whole : (body : List ℕ) (cs : List Command) → AreLines body cs → Reading body cs None
read_whole body cs a = record { rest = []; lines = cut a; stop = at_end refl }

read_to_fault : (body : List ℕ) (n : ℕ) (kind : LineFault) → BodyFault body n kind → (cs : List Command) × Reading body cs (Some kind) × (n ≡ counted (length cs + 2))
read_to_fault body _ _ (faulty past cs line more kind a e o f) =
    (cs, record { rest = line ++ 10 ∷ more; lines = cut_before body past (line ++ 10 ∷ more) cs a e; stop = at_fault line more kind refl o f }, refl)
read_to_fault body _ _ (no_end past cs line a e l o) = (cs, record { rest = line; lines = cut_before body past line cs a e; stop = at_open_line l o }, refl)

one_body : (body key : List ℕ) (first : ℕ) (ss ts : List Step) → GiveSteps body key first ss → GiveSteps body key first ts → ss ≡ ts
one_body body key first ss ts (cs, h, e) (ds, k, f) =
    e ∙ ap (λ xs. (timeline key first xs).steps) (one_reading body cs ds None None (read_whole body cs h) (read_whole body ds k)).0 ∙ sym f

no_body_fault : (body key : List ℕ) (first n : ℕ) (ss : List Step) (kind : LineFault) → GiveSteps body key first ss → BodyFault body n kind → ⊥
no_body_fault body key first n ss kind (cs, h, e) f =
    let (ds, k, c) = read_to_fault body n kind f in
    let x : None ≡ Some kind = (one_reading body cs ds None (Some kind) (read_whole body cs h) k).1 in cc

one_body_fault : (body : List ℕ) (m n : ℕ) (j k : LineFault) → BodyFault body m j → BodyFault body n k → (m ≡ n) × (j ≡ k)
one_body_fault body m n j k h i =
    let (cs, a, c) = read_to_fault body m j h in
    let (ds, b, d) = read_to_fault body n k i in
    let same = one_reading body cs ds (Some j) (Some k) a b in
    let x : Some j ≡ Some k = same.1 in
    (c ∙ ap (λ xs. counted (length xs + 2)) same.0 ∙ sym d, cc)

-- ---- the first line

no_line_end : (ds : List ℕ) → IsTrue (list_all is_hexadecimal ds) → IsTrue (is_one_line ds)
no_line_end [] h = refl
no_line_end (d ∷ ds) h =
    let p = and_parts _ _ h in
    let digit : is_hexadecimal d ≡ true = p.0 in
    let here : not (d == 10) ≡ true = grind (arith, nat_tests) in
    ap (λ b. b && is_one_line ds) here ∙ no_line_end ds p.1

key_line : (line key : List ℕ) → GivesKey line key → IsTrue (is_one_line line)
key_line line key (ds, e, k, s) =
    let P : List ℕ → Type 0 = λ l. IsTrue (is_one_line l) in subst P (sym e) (no_line_end ds (and_parts _ _ k).1)

one_key : (line key other : List ℕ) → GivesKey line key → GivesKey line other → key ≡ other
one_key line key other (ds, e, k, s) (cs, f, j, t) =
    let same : ds ≡ cs = ap (drop 4) (sym e ∙ f) in
    let P : List ℕ → Type 0 = λ x. Spells x key in
    let u = subst P same s in
    ext_get_or 0 key other (u.0 ∙ sym t.0) (λ i l. u.1 i (omega (arith, l, u.0)) ∙ sym (t.1 i (omega (arith, l, u.0))))

same_first : (bs line other body rest key : List ℕ) → bs ≡ line ++ 10 ∷ body → GivesKey line key → bs ≡ other ++ 10 ∷ rest → IsTrue (is_one_line other) → (line ≡ other) × (body ≡ rest)
same_first bs line other body rest key e g f o = split_once line other body rest (key_line line key g) o (sym e ∙ f)

no_bad_key : (bs line other body rest key : List ℕ) → bs ≡ line ++ 10 ∷ body → GivesKey line key → bs ≡ other ++ 10 ∷ rest → IsTrue (is_one_line other) → ((k : List ℕ) → GivesKey other k → ⊥) → ⊥
no_bad_key bs line other body rest key e g f o h =
    let P : List ℕ → Type 0 = λ l. GivesKey l key in h key (subst P (same_first bs line other body rest key e g f o).0 g)

not_alone : (bs line body : List ℕ) → bs ≡ line ++ 10 ∷ body → IsTrue (is_one_line bs) → ⊥
not_alone bs line body e o = let P : List ℕ → Type 0 = λ l. IsTrue (is_one_line l) in not_one_line line body (subst P e o)

-- two readings of one first line
same_start : (bs line other body rest key old : List ℕ) → bs ≡ line ++ 10 ∷ body → GivesKey line key → bs ≡ other ++ 10 ∷ rest → GivesKey other old → (body ≡ rest) × (key ≡ old)
same_start bs line other body rest key old e g f i =
    let p = same_first bs line other body rest key e g f (key_line other old i) in
    let P : List ℕ → Type 0 = λ l. GivesKey l key in (p.1, one_key other key old (subst P p.0 g) i)

-- ---- the whole

pub one_list : (bs : List ℕ) (first : ℕ) (ss ts : List Step) → IsScript bs first ss → IsScript bs first ts → ss ≡ ts
one_list bs first ss ts (line, body, key, e, g, h) (other, rest, old, f, i, k) =
    let p = same_start bs line other body rest key old e g f i in
    let P : List ℕ → Type 0 = λ b. GiveSteps b key first ss in
    let Q : List ℕ → Type 0 = λ x. GiveSteps rest x first ss in
    one_body rest old first ss ts (subst Q p.1 (subst P p.0 h)) k

pub no_script_fault : (bs : List ℕ) (first n : ℕ) (ss : List Step) (kind : LineFault) → IsScript bs first ss → Fault bs n kind → ⊥
no_script_fault bs first _ ss _ (line, body, key, e, g, h) (no_key other rest f o k) = no_bad_key bs line other body rest key e g f o k
no_script_fault bs first _ ss _ (line, body, key, e, g, h) (no_key_alone o k) = not_alone bs line body e o
no_script_fault bs first _ ss _ (line, body, key, e, g, h) (key_without_end old i) = not_alone bs line body e (key_line bs old i)
no_script_fault bs first _ ss _ (line, body, key, e, g, h) (later other rest old n kind f i b) =
    let P : List ℕ → Type 0 = λ x. GiveSteps x key first ss in
    no_body_fault rest key first n ss kind (subst P (same_start bs line other body rest key old e g f i).0 h) b

pub one_script_fault : (bs : List ℕ) (m n : ℕ) (j k : LineFault) → Fault bs m j → Fault bs n k → (m ≡ n) × (j ≡ k)
one_script_fault bs _ _ _ _ (no_key l r e o h) (no_key m q f p i) = (refl, refl)
one_script_fault bs _ _ _ _ (no_key l r e o h) (no_key_alone p i) = (refl, refl)
one_script_fault bs _ _ _ _ (no_key l r e o h) (key_without_end key g) = absurd (not_alone bs l r e (key_line bs key g))
one_script_fault bs _ _ _ _ (no_key l r e o h) (later line body key n kind f g b) = absurd (no_bad_key bs line l body r key f g e o h)
one_script_fault bs _ _ _ _ (no_key_alone o h) (no_key m q f p i) = (refl, refl)
one_script_fault bs _ _ _ _ (no_key_alone o h) (no_key_alone p i) = (refl, refl)
one_script_fault bs _ _ _ _ (no_key_alone o h) (key_without_end key g) = absurd (h key g)
one_script_fault bs _ _ _ _ (no_key_alone o h) (later line body key n kind f g b) = absurd (not_alone bs line body f o)
one_script_fault bs _ _ _ _ (key_without_end key g) (no_key m q f p i) = absurd (not_alone bs m q f (key_line bs key g))
one_script_fault bs _ _ _ _ (key_without_end key g) (no_key_alone p i) = absurd (i key g)
one_script_fault bs _ _ _ _ (key_without_end key g) (key_without_end old i) = (refl, refl)
one_script_fault bs _ _ _ _ (key_without_end key g) (later line body old n kind f i b) = absurd (not_alone bs line body f (key_line bs key g))
one_script_fault bs _ _ _ _ (later line body key n kind e g b) (no_key m q f p i) = absurd (no_bad_key bs line m body q key e g f p i)
one_script_fault bs _ _ _ _ (later line body key n kind e g b) (no_key_alone p i) = absurd (not_alone bs line body e p)
one_script_fault bs _ _ _ _ (later line body key n kind e g b) (key_without_end old i) = absurd (not_alone bs line body e (key_line bs old i))
one_script_fault bs _ _ _ _ (later line body key m j e g b) (later other rest old n k f i d) =
    let P : List ℕ → Type 0 = λ x. BodyFault x m j in
    one_body_fault rest m n j k (subst P (same_start bs line other body rest key old e g f i).0 b) d
