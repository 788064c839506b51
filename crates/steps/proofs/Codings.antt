-- Lines that are collected, and what comes of them when they end.
use Rattle.std.proofs.Common.{◌≡◌, ◌∙◌, ap, sym, refl, subst, ℕ, zero, suc, ◌+◌, ◌%◌, ◌^◌, ◌-◌, ◌<◌, min, ℤ, Bool, true, false, List, [], ◌∷◌, ◌++◌, Option, Some, None, IsTrue, if◌then◌else◌, codes, arith}
use Rattle.std.specs.Prelude.{option_map, nat_le, Result, Ok, Err, IfOk, OnOk}
use Rattle.std.proofs.lemmas.Bool.Decides.{nat_tests}
use Rattle.std.specs.Fmt.{decimal}
use Rattle.std.proofs.lemmas.Fmt.{decimal_by_steps}
use Rattle.spec_value.specs.Answer.{is_allowed}
use Rattle.spec_value.specs.Datum.{list, of_list, is_text, Text, same_text}
use Rattle.spec_program.specs.ReadPrograms.{Parsed, program, faulty}
use Rattle.spec_world.specs.World.{World, Object, Link, Programming, Verb, object_at}
use Rattle.spec_world.specs.VerbNames.{any_spells}
use Rattle.spec_world.specs.Permissions.{in_place, may, program_verb}
use Rattle.spec_world.specs.Links.{open_link}
use Rattle.spec_world.specs.Members.{verb_changed}
use Rattle.spec_world.proofs.Trees.{some_same}
use Rattle.spec_world.specs.Questions.{verbs_at}
use Rattle.spec_moo.specs.Scene.{Scene}
use Rattle.spec_moo.specs.Natives.Properties.{as_texts}
use Rattle.spec_moo.specs.Natives.Verbs.{place_of_word}
use Rattle.spec_moo.specs.Steps.Programming.{says, own_place, programmable, programmable_at, written, fits_still, ends, goes_on, collected}
use Rattle.syntax_fault.specs.Meaning.{kind_meant, OfKindOrMemory, IsFaultOrMemory}
use Rattle.syntax_fault.specs.declared.fault.SyntaxFault.{SyntaxFault}
use Rattle.moo_value.proofs.Characters.{is_text-append}
use Rattle.spec_program.specs.Tokens.{FaultKind}
use Rattle.view.specs.Law.{Goes, Tells}
use Rattle.steps.specs.Codes.{HasVerb, HasVerbAt, behind_line, IsTold}

-- ---- the verb

place_next : (u : Verb) (vs : List Verb) (m : Option ℕ) (n : ℕ) → ((k : ℕ) → m ≡ Some k → (v : Verb) × (in_place vs k ≡ Some v)) → option_map suc m ≡ Some n
    → (v : Verb) × (in_place (u ∷ vs) n ≡ Some v)
place_next u vs None n later e = cc
place_next u vs (Some k) n later e = let f = later k refl in (f.0, ap (in_place (u ∷ vs)) (sym (some_same e)) ∙ f.1)

place_among : (u : Verb) (vs : List Verb) (b : Bool) (m : Option ℕ) (n : ℕ) → ((k : ℕ) → m ≡ Some k → (v : Verb) × (in_place vs k ≡ Some v))
    → (if b then Some zero else option_map suc m) ≡ Some n → (v : Verb) × (in_place (u ∷ vs) n ≡ Some v)
place_among u vs true m n later e = (u, ap (in_place (u ∷ vs)) (sym (some_same e)))
place_among u vs false m n later e = place_next u vs m n later e

found_there : (vs : List Verb) (word : Text) (n : ℕ) → place_of_word word vs ≡ Some n → (v : Verb) × (in_place vs n ≡ Some v)
found_there [] word n e = cc
found_there (u ∷ vs) word n e = place_among u vs (any_spells u.names word) (place_of_word word vs) n (λ k is. found_there vs word k is) e

allowed_place : (w : World) (who o : ℤ) (m : Option ℕ) (n : ℕ) → programmable_at w who o m ≡ Some n → m ≡ Some n
allowed_place w who o None n e = cc
allowed_place w who o (Some k) n e = go (may w who (program_verb o k)) e
  where
    go : (b : Bool) → (if b then Some k else None) ≡ Some n → Some k ≡ Some n
    go true is = is
    go false is = cc

verb_found : (w : World) (o : ℤ) (word : Text) (n : ℕ) (x : Option Object) → object_at w o ≡ x → own_place x word ≡ Some n → HasVerb w o n
verb_found w o word n None is e = cc
verb_found w o word n (Some x) is e =
    let f = found_there x.verbs word n e in record { verbs = x.verbs; verb = f.0; object_has = ap (option_map (λ y. y.verbs)) is; stands_there = f.1 }

-- what may be programmed is there
pub may_be_programmed : (w : World) (who o : ℤ) (word : Text) (m : Option ℕ) → programmable w who o word ≡ m → HasVerbAt w o m
may_be_programmed w who o word None e = tt
may_be_programmed w who o word (Some n) e = verb_found w o word n (object_at w o) refl (allowed_place w who o (own_place (object_at w o) word) n e)

-- whatever its link
pub still_has : (w : World) (c o : ℤ) (k : Link) (m : Option ℕ) → HasVerbAt w o m → HasVerbAt (open_link w c k) o m
still_has w c o k None h = tt
still_has w c o k (Some n) h = record { verbs = h.verbs; verb = h.verb; object_has = h.object_has; stands_there = h.stands_there }

pub has_at : (w : World) (o : ℤ) (m : Option ℕ) (n : ℕ) → m ≡ Some n → HasVerbAt w o m → HasVerb w o n
has_at w o m n is h = subst (HasVerbAt w o) is h

pub none_less : (w : World) (o : ℤ) (n : ℕ) (vs : List Verb) → HasVerb w o n → verbs_at w o ≡ Some vs → in_place vs n ≡ None → ⊥
none_less w o n vs h is none =
    let clash : None ≡ Some h.verb = sym none ∙ ap (λ (us : List Verb). in_place us n) (some_same (sym is ∙ h.object_has)) ∙ h.stands_there in absurd (cc (clash))

-- the verb that was found has another program
pub program_given : {V E : Type 0} (holds : V → World → Type 0) (now : V → World → World) (a b u : V) (o : ℤ) (n : ℕ) (f : Verb → Verb) (vs : List Verb) (r : Result (Unit {0}) E)
    → Tells holds now a b (λ w. verbs_at w o ≡ Some vs) → OnOk r (Goes holds now b u (λ before after. verbs_at before o ≡ Some vs → after ≡ verb_changed before o n f))
    → OnOk r (Goes holds now a u (λ before after. after ≡ verb_changed before o n f))
program_given holds now a b u o n f vs (Err x) told goes = goes
program_given holds now a b u o n f vs (Ok x) told goes = λ w h.
    let k = goes w h in
    let j = told w k.0 in
    (j.0, k.1 (ap (λ (y : World). verbs_at y o) j.1.0 ∙ j.1.1) ∙ ap (λ (y : World). verb_changed y o n f) j.1.0)

-- ---- faults

one_digit : (n : ℕ) → n < 10 → IsTrue (is_text ((48 + n) ∷ []))
one_digit n h = grind (arith, nat_tests)

pub text_decimal : (n : ℕ) → n < 2 ^ 64 → IsTrue (is_text (decimal n))
text_decimal =
    decimal_by_steps (λ n ds. IsTrue (is_text ds)) (λ n h. one_digit n h) (λ n ds le before. is_text-append ds ((48 + n % 10) ∷ []) before (one_digit (n % 10) (omega arith)))

told_as : (k : Option FaultKind) (line : ℕ) (p : Parsed) (kind t : Text) → option_map behind_line k ≡ Some kind → t ≡ codes "Line " ++ (decimal line ++ kind) → OfKindOrMemory k line p → IsTold t p
told_as None line p kind t named is h = cc
told_as (Some k) line p kind t named is h =
    subst (IsTold t) (sym h) (is ∙ ap (λ (x : Text). codes "Line " ++ (decimal line ++ x)) (sym (some_same named)))

fault_told : (e : SyntaxFault) (p : Parsed) (kind digits t : Text) → option_map behind_line (kind_meant e.kind) ≡ Some kind → digits ≡ decimal e.line
    → t ≡ codes "Line " ++ (digits ++ kind) → IsFaultOrMemory e p → IsTold t p
fault_told e p kind digits t named number is h =
    told_as (kind_meant e.kind) e.line p kind t named (is ∙ ap (λ (x : Text). codes "Line " ++ (x ++ kind)) number) h

pub fault_joined : {E : Type 0} (e : SyntaxFault) (kind digits : Text) (r : Result Text E) → option_map behind_line (kind_meant e.kind) ≡ Some kind → digits ≡ decimal e.line
    → IfOk r (λ t. t ≡ codes "Line " ++ (digits ++ kind)) → IfOk r (λ t. (p : Parsed) → IsFaultOrMemory e p → IsTold t p)
fault_joined e kind digits (Ok t) named number is = λ p h. fault_told e p kind digits t named number is h
fault_joined e kind digits (Err x) named number is = tt

pub fault_written : (s : Scene) (c o : ℤ) (n : ℕ) (p : Parsed) (t : Text) → IsTold t p → written s c o n p ≡ says s c t
fault_written s c o n (program q) t h = absurd h
fault_written s c o n (faulty f) t h = ap (says s c) (sym h)

-- ---- the lines

pub as_decided : (s : Scene) (c : ℤ) (k : Link) (g : Programming) (t : Text) (b : Bool) → b ≡ same_text t (codes ".") → collected s c k g t ≡ (if b then ends s c k g else goes_on s c k g t)
as_decided s c k g t b is = ap (λ (d : Bool). if d then ends s c k g else goes_on s c k g t) (sym is)

pub allowed_lines : (ts : List Text) (b : Bool) (o : Option (List Text)) → b ≡ is_allowed (list (of_list (as_texts ts))) → o ≡ (if b then Some ts else None) → o ≡ fits_still ts
allowed_lines ts b o is made = made ∙ ap (λ (d : Bool). if d then Some ts else None) is

pub weighed : (total weight : ℕ) → weight < 2 ^ 64 → min weight (2 ^ 64 - 1) ≡ min total (2 ^ 64 - 1) → nat_le weight 65536 ≡ nat_le total 65536
weighed total weight small e = grind (arith, nat_tests)
