-- Two ids of one object with one credit, put together.
use Rattle.std.proofs.Common.{ℕ, ◌≡◌, ◌+◌, Option, Some, None, IfSome, sym, ap, ◌∙◌, arith}
use Rattle.hpx_value.specs.Ids.{Id, bare}
use Rattle.hpx_ids.specs.declared.held.Held.{Held}
use Rattle.hpx_ids.specs.Tables.{AreAlike, credit_for}

-- an object with its credit is one id
with_log : Id → Option ℕ → Id
with_log id log = record id { log = log }

same_ids : (a b : Id) → bare a ≡ bare b → a.log ≡ b.log → a ≡ b
unfolding with_log
same_ids a b h l = ap (λ x. with_log x a.log) h ∙ ap (λ x. with_log b x) l

-- what one entry loses the other gains
pub credits_kept : (result : Id) (was other : Option Held) (before between behind : Id → ℕ) → AreAlike was other
    → IfSome other (λ g. result ≡ g.gid) → ((o : Id) → between o + credit_for o result ≡ before o)
    → IfSome was (λ h. (o : Id) → behind o ≡ between o + credit_for o h.gid) → (o : Id) → behind o ≡ before o
credits_kept result None other before between behind alike taken less more = elim alike [ ]
credits_kept result (Some h) None before between behind alike taken less more = elim alike [ ]
credits_kept result (Some h) (Some g) before between behind alike taken less more = λ o.
    let same : h.gid ≡ result = same_ids h.gid g.gid alike.2 alike.3 ∙ sym taken in
    let worth : credit_for o h.gid ≡ credit_for o result = ap (credit_for o) same in
    omega (arith, worth, less o, more o)
