-- The verbs that wait, as they are stored, and the programmer of the innermost.
use Rattle.std.proofs.Common.{◌≡◌, ◌∙◌, ap, sym, ℕ, ℤ, ◌+◌, ◌-◌, ◌<◌, ◌≤◌, List, [], ◌∷◌, ◌++◌, length, take, get_or, arith}
use Rattle.std.specs.Prelude.{neg_ℤ, pos}
use Rattle.std.proofs.lemmas.List.{take_all, take_more}
use Rattle.spec_moo.specs.Pending.{calls_of}
use Rattle.spec_moo.specs.Natives.Tasks.{first_of, programmer_of}
use Rattle.moo_code.specs.Machine as code
use Rattle.moo_task.specs.Frames.{outer_of, outers_of}
use Rattle.moo_task.specs.declared.native.Native.{Native}
use Rattle.moo_task.specs.declared.frame.Frame.{Frame}
use Rattle.moo_task.specs.declared.frame.Outer.{Outer}
use Rattle.moo_task.specs.declared.frame.Outer.TheVariants.{Verb, Native as NativeOf}
use Rattle.moo_task.proofs.Waiting.{one_more}

abbrev called_by : List code.Outer → ℤ
called_by ks = programmer_of (first_of (calls_of (code.entries ks)))

last_of : (os : List Outer) (n : ℕ) (o : Outer) → 0 < n → n ≤ length os → o ≡ get_or os (n - 1) o → outers_of (take n os) ≡ outer_of o ∷ outers_of (take (n - 1) os)
last_of os n o some small is =
    let next : (n - 1) + 1 ≡ n = omega arith in
    sym (ap (λ k. outers_of (take k os)) next) ∙ ap outers_of (take_more os (n - 1) o (omega arith)) ∙ ap (λ x. outers_of (take (n - 1) os ++ x ∷ [])) (sym is) ∙ one_more (take (n - 1) os) o

pub verb_calls : (os : List Outer) (n : ℕ) (o : Outer) (f : Frame) → 0 < n → n ≤ length os → o ≡ get_or os (n - 1) o → o ≡ Verb f
    → programmer_of (first_of (calls_of (code.entries (outers_of (take n os))))) ≡ f.call.programmer
verb_calls os n o f some small is verb = ap called_by (last_of os n o some small is) ∙ ap (λ x. called_by (outer_of x ∷ outers_of (take (n - 1) os))) verb

pub native_waits : (os : List Outer) (n : ℕ) (o : Outer) (m : Native) → 0 < n → n ≤ length os → o ≡ get_or os (n - 1) o → o ≡ NativeOf m
    → programmer_of (first_of (calls_of (code.entries (outers_of (take (n - 1) os))))) ≡ programmer_of (first_of (calls_of (code.entries (outers_of (take n os)))))
native_waits os n o m some small is native =
    sym (ap called_by (last_of os n o some small is) ∙ ap (λ x. called_by (outer_of x ∷ outers_of (take (n - 1) os))) native)

pub all_wait : (os : List Outer) (n : ℕ) → length os ≤ n
    → programmer_of (first_of (calls_of (code.entries (outers_of (take n os))))) ≡ programmer_of (first_of (calls_of (code.entries (outers_of os))))
all_wait os n h = ap (λ xs. called_by (outers_of xs)) (take_all n os h)

pub none_calls : (os : List Outer) (n : ℕ) → n ≡ 0 → programmer_of (first_of (calls_of (code.entries (outers_of (take n os))))) ≡ neg_ℤ (pos 1)
none_calls os n h = ap (λ k. called_by (outers_of (take k os))) h
