-- What a script says, from its parts.
use Rattle.std.proofs.Common.{◌≡◌, ℕ, ◌+◌, ◌<◌, true, false, nat_eq, IsTrue, IsFalse, List, [], ◌∷◌, ◌++◌, length, take, drop, codes, refl, sym, ap, ◌∙◌, subst, arith, length-append, Result, Ok, Err, IfOk, IfErr}
use Rattle.std.specs.Cmp.Lexicographic.{pointwise}
use Rattle.std.proofs.lemmas.List.{append_assoc}
use Rattle.spec_world.specs.Step.{Step}
use Rattle.moo_script.specs.declared.fault.ScriptFault.{ScriptFault}
use Rattle.moo_script.specs.declared.fault.ScriptFault.TheVariants as script
use Rattle.moo_script.specs.declared.fault.LineFault.{LineFault}
use Rattle.moo_script.specs.declared.fault.LineFault.TheVariants as fault
use Rattle.moo_script.specs.declared.script.Command.{Command}
use Rattle.moo_script.specs.Keys.{is_key, Spells}
use Rattle.moo_script.specs.Lines.{Says, IsFaulty}
use Rattle.moo_script.specs.Scripts.{is_one_line, GivesKey, AreLines, none, also, GiveSteps, IsScript, IsBodyFault, IsFault, Timeline, after_command, after_commands, timeline, counted, BodyFault, faulty, no_end, Fault, no_key, no_key_alone, key_without_end, later}
use Rattle.moo_script.proofs.Forms.{begins}

pub gives_key : (line ds key : List ℕ) → pointwise nat_eq (take 4 line) (codes "key ") ≡ true → ds ≡ drop 4 line → IsTrue (is_key ds) → Spells ds key → GivesKey line key
gives_key line ds key h e k s = (ds, begins (codes "key ") line ds h e, k, s)

pub no_key_word : (line : List ℕ) → pointwise nat_eq (take 4 line) (codes "key ") ≡ false → (key : List ℕ) → GivesKey line key → ⊥
no_key_word line h key g = let x : true ≡ false = ap (λ b. pointwise nat_eq (take 4 b) (codes "key ")) (sym g.1) ∙ h in cc

pub no_key_digits : (line ds : List ℕ) → ds ≡ drop 4 line → IsFalse (is_key ds) → (key : List ℕ) → GivesKey line key → ⊥
no_key_digits line ds e k key g =
    let d : ds ≡ g.0 = e ∙ ap (drop 4) g.1 in
    let x : true ≡ false = sym g.2 ∙ ap is_key (sym d) ∙ k in cc

pub first_says : (bs line body key : List ℕ) → bs ≡ line ++ 10 ∷ body → GivesKey line key → (l : List ℕ) × (bs ≡ l ++ 10 ∷ body) × GivesKey l key
first_says bs line body key e g = (line, e, g)

pub first_key : (bs line body : List ℕ) → IsTrue (is_one_line line) → bs ≡ line ++ 10 ∷ body → ((key : List ℕ) → GivesKey line key → ⊥) → Fault bs 1 fault.Key
first_key bs line body o e h = no_key line body e o h

pub first_alone : (bs : List ℕ) → IsTrue (is_one_line bs) → ((key : List ℕ) → GivesKey bs key → ⊥) → Fault bs 1 fault.Key
first_alone bs o h = no_key_alone o h

pub first_end : (bs key : List ℕ) → GivesKey bs key → Fault bs 1 fault.Word
first_end bs key g = key_without_end key g

-- one command more
after_more : (key : List ℕ) (t : Timeline) (cs : List Command) (c : Command) → after_commands key t (cs ++ c ∷ []) ≡ after_command key (after_commands key t cs) c
after_more key t [] c = refl
after_more key t (d ∷ cs) c = after_more key (after_command key t d) cs c

-- where a reader of the lines stands
pub record Stands (body key : List ℕ) (first : ℕ) (rest : List ℕ) (t : Timeline) (line : ℕ) : Type 0 where
  pub past : List ℕ
  pub cs : List Command
  pub whole : body ≡ past ++ rest
  pub lines : AreLines past cs
  pub at : t ≡ timeline key first cs
  pub count : line ≡ counted (length cs + 1)

pub begun : (body key : List ℕ) (first : ℕ) → Stands body key first body (record { steps = []; moment = 0; number = first }) 1
begun body key first = record { past = []; cs = []; whole = refl; lines = none; at = refl; count = refl }

pub steps_given : (body key : List ℕ) (first : ℕ) (rest : List ℕ) (t : Timeline) (n : ℕ) → Stands body key first rest t n → rest ≡ [] → GiveSteps body key first t.steps
steps_given body key first rest t n s e = (s.cs, subst (λ b. AreLines b s.cs) (sym (s.whole ∙ ap (λ r. s.past ++ r) e ∙ append_nil s.past)) s.lines, ap (λ u. u.steps) s.at)
  where
    append_nil : (xs : List ℕ) → xs ++ [] ≡ xs
    append_nil [] = refl
    append_nil (x ∷ xs) = ap (λ l. x ∷ l) (append_nil xs)

pub one_more : (body key : List ℕ) (first : ℕ) (rest : List ℕ) (t : Timeline) (n : ℕ) → Stands body key first rest t n → (line more : List ℕ) (c : Command) → IsTrue (is_one_line line) → rest ≡ line ++ 10 ∷ more → Says line c → Stands body key first more (after_command key t c) (counted (n + 1))
one_more body key first rest t n s line more c o e h = record {
  past = s.past ++ (line ++ 10 ∷ []);
  cs = s.cs ++ c ∷ [];
  whole = s.whole ∙ ap (λ r. s.past ++ r) (e ∙ sym (append_assoc line (10 ∷ []) more)) ∙ sym (append_assoc s.past (line ++ 10 ∷ []) more);
  lines = also s.lines line c o h;
  at = ap (λ u. after_command key u c) s.at ∙ sym (after_more key _ s.cs c);
  count = omega (arith, s.count, length-append s.cs (c ∷ []));
}

pub faulty_line : (body key : List ℕ) (first : ℕ) (rest : List ℕ) (t : Timeline) (n : ℕ) → Stands body key first rest t n → (line more : List ℕ) (kind : LineFault) → IsTrue (is_one_line line) → rest ≡ line ++ 10 ∷ more → IsFaulty line kind → BodyFault body (counted (n + 1)) kind
faulty_line body key first rest t n s line more kind o e h =
    let count : counted (length s.cs + 2) ≡ counted (n + 1) = omega (arith, s.count) in
    subst (λ m. BodyFault body m kind) count (faulty s.past s.cs line more kind s.lines (s.whole ∙ ap (λ r. s.past ++ r) e) o h)

pub endless_line : (body key : List ℕ) (first : ℕ) (rest : List ℕ) (t : Timeline) (n : ℕ) → Stands body key first rest t n → 0 < length rest → IsTrue (is_one_line rest) → BodyFault body (counted (n + 1)) fault.Word
endless_line body key first rest t n s l o =
    let count : counted (length s.cs + 2) ≡ counted (n + 1) = omega (arith, s.count) in
    subst (λ m. BodyFault body m fault.Word) count (no_end s.past s.cs rest s.lines s.whole l o)

-- ---- the whole

abbrev HasFirst : List ℕ → List ℕ → List ℕ → Type 0
HasFirst bs body key = (line : List ℕ) × (bs ≡ line ++ 10 ∷ body) × GivesKey line key

pub script_says : {X : Type 0} (items : X → List Step) (bs body key : List ℕ) (first : ℕ) (r : Result X ScriptFault) → HasFirst bs body key → IfOk r (λ v. GiveSteps body key first (items v)) → IfOk r (λ v. IsScript bs first (items v))
script_says items bs body key first (Ok v) f h = (f.0, body, key, f.1, f.2, h)
script_says items bs body key first (Err e) f h = h

pub script_fault : {X : Type 0} (bs body key : List ℕ) (r : Result X ScriptFault) → HasFirst bs body key → IfErr r (λ e. IsBodyFault body e) → IfErr r (λ e. IsFault bs e)
script_fault bs body key (Ok v) f h = h
script_fault bs body key (Err (script.Line n kind)) f h = later f.0 body key n kind f.1 f.2 h
script_fault bs body key (Err (script.Memory e)) f h = tt
