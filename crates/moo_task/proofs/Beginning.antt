-- Slots without values behind those of a verb's start.
use Rattle.std.proofs.Common.{◌≡◌, ◌∙◌, ap, sym, refl, ℕ, zero, suc, ◌+◌, ◌<◌, List, [], ◌∷◌, ◌++◌, length, take, get_or, Option, None, append_assoc, arith}
use Rattle.std.proofs.lemmas.List.{take_all, take_more, nil_from_length}
use Rattle.std.specs.Prelude.{replicate}
use Rattle.spec_value.specs.Datum.{Datum}

none_more : (n : ℕ) → replicate {A = Option Datum} n None ++ None ∷ [] ≡ replicate (suc n) None
none_more zero = refl
none_more (suc n) = ap (λ r. None ∷ r) (none_more n)

pub one_more : (n : ℕ) (a : List (Option Datum)) → (a ++ replicate n None) ++ None ∷ [] ≡ a ++ replicate (n + 1) None
one_more n a =
    let e : suc n ≡ n + 1 = omega arith in
    append_assoc a (replicate n None) (None ∷ []) ∙ ap (λ r. a ++ r) (none_more n) ∙ ap (λ k. a ++ replicate k None) e

-- ---- values in their places, one behind the other

pub placed : {X : Type 0} (us vs done : List X) (n : ℕ) (x y : X) → take n us ≡ done → take (n + 1) vs ≡ take n us ++ x ∷ [] → x ≡ y → take (n + 1) vs ≡ done ++ y ∷ []
placed us vs done n x y before now is = now ∙ ap (λ ws. ws ++ x ∷ []) before ∙ ap (λ z. done ++ z ∷ []) is

pub all_placed : {X : Type 0} (us done : List X) (n : ℕ) → length us ≡ n → take n us ≡ done → us ≡ done
all_placed us done n many is = sym (take_all n us (omega arith)) ∙ is

-- what is in its place already
pub there : {X : Type 0} (us : List X) (n : ℕ) (x : X) → n < length us → x ≡ get_or us n x → take (n + 1) us ≡ take n us ++ x ∷ []
there us n x small is = take_more us n x small ∙ ap (λ z. take n us ++ z ∷ []) (sym is)

pub no_characters : (s t : List ℕ) → length s ≡ 0 → length t ≡ 0 → s ≡ t
no_characters s t none empty = nil_from_length s none ∙ sym (nil_from_length t empty)

-- seventeen of them
pub all_seventeen : {X : Type 0} (r r0 r1 r2 r3 r4 r5 r6 r7 r8 r9 r10 r11 r12 r13 r14 r15 r16 : List X) (x0 x1 x2 x3 x4 x5 x6 x7 x8 x9 x10 x11 x12 x13 x14 x15 x16 : X) (y0 y1 y2 y3 y4 y5 y6 y7 y8 y9 y10 y11 y12 y13 y14 y15 y16 : X)
    → take 1 r0 ≡ take 0 r ++ x0 ∷ [] → x0 ≡ y0
    → take 2 r1 ≡ take 1 r0 ++ x1 ∷ [] → x1 ≡ y1
    → take 3 r2 ≡ take 2 r1 ++ x2 ∷ [] → x2 ≡ y2
    → take 4 r3 ≡ take 3 r2 ++ x3 ∷ [] → x3 ≡ y3
    → take 5 r4 ≡ take 4 r3 ++ x4 ∷ [] → x4 ≡ y4
    → take 6 r5 ≡ take 5 r4 ++ x5 ∷ [] → x5 ≡ y5
    → take 7 r6 ≡ take 6 r5 ++ x6 ∷ [] → x6 ≡ y6
    → take 8 r7 ≡ take 7 r6 ++ x7 ∷ [] → x7 ≡ y7
    → take 9 r8 ≡ take 8 r7 ++ x8 ∷ [] → x8 ≡ y8
    → take 10 r9 ≡ take 9 r8 ++ x9 ∷ [] → x9 ≡ y9
    → take 11 r10 ≡ take 10 r9 ++ x10 ∷ [] → x10 ≡ y10
    → take 12 r11 ≡ take 11 r10 ++ x11 ∷ [] → x11 ≡ y11
    → take 13 r12 ≡ take 12 r11 ++ x12 ∷ [] → x12 ≡ y12
    → take 14 r13 ≡ take 13 r12 ++ x13 ∷ [] → x13 ≡ y13
    → take 15 r14 ≡ take 14 r13 ++ x14 ∷ [] → x14 ≡ y14
    → take 16 r15 ≡ take 15 r14 ++ x15 ∷ [] → x15 ≡ y15
    → take 17 r16 ≡ take 16 r15 ++ x16 ∷ [] → x16 ≡ y16
    → length r16 ≡ 17 → r16 ≡ y0 ∷ y1 ∷ y2 ∷ y3 ∷ y4 ∷ y5 ∷ y6 ∷ y7 ∷ y8 ∷ y9 ∷ y10 ∷ y11 ∷ y12 ∷ y13 ∷ y14 ∷ y15 ∷ y16 ∷ []
all_seventeen {X} r r0 r1 r2 r3 r4 r5 r6 r7 r8 r9 r10 r11 r12 r13 r14 r15 r16 x0 x1 x2 x3 x4 x5 x6 x7 x8 x9 x10 x11 x12 x13 x14 x15 x16 y0 y1 y2 y3 y4 y5 y6 y7 y8 y9 y10 y11 y12 y13 y14 y15 y16 f0 s0 f1 s1 f2 s2 f3 s3 f4 s4 f5 s5 f6 s6 f7 s7 f8 s8 f9 s9 f10 s10 f11 s11 f12 s12 f13 s13 f14 s14 f15 s15 f16 s16 many =
    let e0 : take 1 r0 ≡ y0 ∷ [] = placed r r0 [] 0 x0 y0 refl f0 s0 in
    let e1 : take 2 r1 ≡ y0 ∷ y1 ∷ [] = placed r0 r1 (y0 ∷ []) 1 x1 y1 e0 f1 s1 in
    let e2 : take 3 r2 ≡ y0 ∷ y1 ∷ y2 ∷ [] = placed r1 r2 (y0 ∷ y1 ∷ []) 2 x2 y2 e1 f2 s2 in
    let e3 : take 4 r3 ≡ y0 ∷ y1 ∷ y2 ∷ y3 ∷ [] = placed r2 r3 (y0 ∷ y1 ∷ y2 ∷ []) 3 x3 y3 e2 f3 s3 in
    let e4 : take 5 r4 ≡ y0 ∷ y1 ∷ y2 ∷ y3 ∷ y4 ∷ [] = placed r3 r4 (y0 ∷ y1 ∷ y2 ∷ y3 ∷ []) 4 x4 y4 e3 f4 s4 in
    let e5 : take 6 r5 ≡ y0 ∷ y1 ∷ y2 ∷ y3 ∷ y4 ∷ y5 ∷ [] = placed r4 r5 (y0 ∷ y1 ∷ y2 ∷ y3 ∷ y4 ∷ []) 5 x5 y5 e4 f5 s5 in
    let e6 : take 7 r6 ≡ y0 ∷ y1 ∷ y2 ∷ y3 ∷ y4 ∷ y5 ∷ y6 ∷ [] = placed r5 r6 (y0 ∷ y1 ∷ y2 ∷ y3 ∷ y4 ∷ y5 ∷ []) 6 x6 y6 e5 f6 s6 in
    let e7 : take 8 r7 ≡ y0 ∷ y1 ∷ y2 ∷ y3 ∷ y4 ∷ y5 ∷ y6 ∷ y7 ∷ [] = placed r6 r7 (y0 ∷ y1 ∷ y2 ∷ y3 ∷ y4 ∷ y5 ∷ y6 ∷ []) 7 x7 y7 e6 f7 s7 in
    let e8 : take 9 r8 ≡ y0 ∷ y1 ∷ y2 ∷ y3 ∷ y4 ∷ y5 ∷ y6 ∷ y7 ∷ y8 ∷ [] = placed r7 r8 (y0 ∷ y1 ∷ y2 ∷ y3 ∷ y4 ∷ y5 ∷ y6 ∷ y7 ∷ []) 8 x8 y8 e7 f8 s8 in
    let e9 : take 10 r9 ≡ y0 ∷ y1 ∷ y2 ∷ y3 ∷ y4 ∷ y5 ∷ y6 ∷ y7 ∷ y8 ∷ y9 ∷ [] = placed r8 r9 (y0 ∷ y1 ∷ y2 ∷ y3 ∷ y4 ∷ y5 ∷ y6 ∷ y7 ∷ y8 ∷ []) 9 x9 y9 e8 f9 s9 in
    let e10 : take 11 r10 ≡ y0 ∷ y1 ∷ y2 ∷ y3 ∷ y4 ∷ y5 ∷ y6 ∷ y7 ∷ y8 ∷ y9 ∷ y10 ∷ [] = placed r9 r10 (y0 ∷ y1 ∷ y2 ∷ y3 ∷ y4 ∷ y5 ∷ y6 ∷ y7 ∷ y8 ∷ y9 ∷ []) 10 x10 y10 e9 f10 s10 in
    let e11 : take 12 r11 ≡ y0 ∷ y1 ∷ y2 ∷ y3 ∷ y4 ∷ y5 ∷ y6 ∷ y7 ∷ y8 ∷ y9 ∷ y10 ∷ y11 ∷ [] = placed r10 r11 (y0 ∷ y1 ∷ y2 ∷ y3 ∷ y4 ∷ y5 ∷ y6 ∷ y7 ∷ y8 ∷ y9 ∷ y10 ∷ []) 11 x11 y11 e10 f11 s11 in
    let e12 : take 13 r12 ≡ y0 ∷ y1 ∷ y2 ∷ y3 ∷ y4 ∷ y5 ∷ y6 ∷ y7 ∷ y8 ∷ y9 ∷ y10 ∷ y11 ∷ y12 ∷ [] = placed r11 r12 (y0 ∷ y1 ∷ y2 ∷ y3 ∷ y4 ∷ y5 ∷ y6 ∷ y7 ∷ y8 ∷ y9 ∷ y10 ∷ y11 ∷ []) 12 x12 y12 e11 f12 s12 in
    let e13 : take 14 r13 ≡ y0 ∷ y1 ∷ y2 ∷ y3 ∷ y4 ∷ y5 ∷ y6 ∷ y7 ∷ y8 ∷ y9 ∷ y10 ∷ y11 ∷ y12 ∷ y13 ∷ [] = placed r12 r13 (y0 ∷ y1 ∷ y2 ∷ y3 ∷ y4 ∷ y5 ∷ y6 ∷ y7 ∷ y8 ∷ y9 ∷ y10 ∷ y11 ∷ y12 ∷ []) 13 x13 y13 e12 f13 s13 in
    let e14 : take 15 r14 ≡ y0 ∷ y1 ∷ y2 ∷ y3 ∷ y4 ∷ y5 ∷ y6 ∷ y7 ∷ y8 ∷ y9 ∷ y10 ∷ y11 ∷ y12 ∷ y13 ∷ y14 ∷ [] = placed r13 r14 (y0 ∷ y1 ∷ y2 ∷ y3 ∷ y4 ∷ y5 ∷ y6 ∷ y7 ∷ y8 ∷ y9 ∷ y10 ∷ y11 ∷ y12 ∷ y13 ∷ []) 14 x14 y14 e13 f14 s14 in
    let e15 : take 16 r15 ≡ y0 ∷ y1 ∷ y2 ∷ y3 ∷ y4 ∷ y5 ∷ y6 ∷ y7 ∷ y8 ∷ y9 ∷ y10 ∷ y11 ∷ y12 ∷ y13 ∷ y14 ∷ y15 ∷ [] = placed r14 r15 (y0 ∷ y1 ∷ y2 ∷ y3 ∷ y4 ∷ y5 ∷ y6 ∷ y7 ∷ y8 ∷ y9 ∷ y10 ∷ y11 ∷ y12 ∷ y13 ∷ y14 ∷ []) 15 x15 y15 e14 f15 s15 in
    let e16 : take 17 r16 ≡ y0 ∷ y1 ∷ y2 ∷ y3 ∷ y4 ∷ y5 ∷ y6 ∷ y7 ∷ y8 ∷ y9 ∷ y10 ∷ y11 ∷ y12 ∷ y13 ∷ y14 ∷ y15 ∷ y16 ∷ [] = placed r15 r16 (y0 ∷ y1 ∷ y2 ∷ y3 ∷ y4 ∷ y5 ∷ y6 ∷ y7 ∷ y8 ∷ y9 ∷ y10 ∷ y11 ∷ y12 ∷ y13 ∷ y14 ∷ y15 ∷ []) 16 x16 y16 e15 f16 s16 in
    all_placed r16 (y0 ∷ y1 ∷ y2 ∷ y3 ∷ y4 ∷ y5 ∷ y6 ∷ y7 ∷ y8 ∷ y9 ∷ y10 ∷ y11 ∷ y12 ∷ y13 ∷ y14 ∷ y15 ∷ y16 ∷ []) 17 many e16
