-- Fibonacci numbers are small.
use Rattle.std.specs.Prelude.{ℕ, zero, suc, ℤ, pos, negsuc, nat_le, IfSome, ◌≡◌, ◌+◌, ◌<◌, ◌≤◌, ◌-◌, ◌^◌, refl}
use Rattle.std.proofs.Common.{ap, ◌∙◌, sym, subst, arith, add-one}
use Rattle.std.proofs.lemmas.Bool.{cond_both, leb-true}
use Rattle.hpx_calls.specs.Contents.{count_in}
use Rattle.app_compute.specs.Numbers.{fibonacci}

pub fibonacci_next : (n : ℕ) → fibonacci (n + 2) ≡ fibonacci (n + 1) + fibonacci n
fibonacci_next n = ap fibonacci (let e : n + 2 ≡ suc (suc n) = omega arith in e) ∙ ap (λ k. fibonacci k + fibonacci n) (sym (add-one n))

grows_one : (n : ℕ) → fibonacci n ≤ fibonacci (suc n)
grows_one zero = omega arith
grows_one (suc zero) = omega arith
grows_one (suc (suc n)) = omega arith

grows : (n more : ℕ) → fibonacci n ≤ fibonacci (n + more)
grows n zero = omega (arith, ap fibonacci (let e : n + 0 ≡ n = omega arith in e))
grows n (suc more) =
    omega (arith, grows n more, grows_one (n + more), ap fibonacci (let e : n + suc more ≡ suc (n + more) = omega arith in e))

-- so many further numbers from two that follow one another
abbrev after : ℕ → ℕ → ℕ → ℕ
after zero this next = this
after (suc n) this next = after n next (this + next)

after_is : (n k : ℕ) → after n (fibonacci k) (fibonacci (suc k)) ≡ fibonacci (k + n)
after_is zero k = ap fibonacci (let e : k ≡ k + 0 = omega arith in e)
after_is (suc n) k =
    ap (after n (fibonacci (suc k))) (let e : fibonacci k + fibonacci (suc k) ≡ fibonacci (suc (suc k)) = omega arith in e)
    ∙ after_is n (suc k) ∙ ap fibonacci (let e : suc k + n ≡ k + suc n = omega arith in e)

last : (n : ℕ) → n ≡ 92 → fibonacci n ≡ 7540113804746346429
last n e = ap fibonacci (let f : n ≡ 0 + 92 = omega arith in f) ∙ sym (after_is 92 0)

beyond : (n : ℕ) → n ≡ 93 → fibonacci n ≡ 12200160415121876738
beyond n e = ap fibonacci (let f : n ≡ 0 + 93 = omega arith in f) ∙ sym (after_is 93 0)

up_to : (n top : ℕ) → n ≤ top → fibonacci n ≤ fibonacci top
up_to n top h = subst (λ k. fibonacci n ≤ fibonacci k) (let e : n + (top - n) ≡ top = omega arith in e) (grows n (top - n))

-- up to the 92nd they are numbers of 63 bits
pub fibonacci_small : (n : ℕ) → n ≤ 92 → fibonacci n < 2 ^ 63
fibonacci_small n h = omega (arith, up_to n 92 h, last 92 refl)

-- and the next has 64
pub fibonacci_wide : (n : ℕ) → n ≤ 93 → fibonacci n < 2 ^ 64
fibonacci_wide n h = omega (arith, up_to n 93 h, beyond 93 refl)

-- a number that is counted is not above the bound
pub count_below : (most : ℕ) (z : ℤ) → IfSome (count_in most z) (λ n. n ≤ most)
count_below most (pos n) = cond_both (nat_le n most) _ _ (λ o. IfSome o (λ k. k ≤ most)) (λ e. leb-true n most e) (λ e. tt)
count_below most (negsuc n) = tt
