-- What a queue is.
use Rattle.std.specs.Prelude.{ℕ, List, refl}
use Rattle.std.specs.Coded.{Coded, code_by, coded×, coded_ℕ, coded_list}

-- the things in order, and how many more there is room for
pub record Queued (T : Type 0) : Type 0 where
  pub items : List T
  pub spare : ℕ

-- a queue is stored as the pair of its fields
abbrev pub queued_code : {T : Type 0} → Coded T → Coded (Queued T)
queued_code {T} code =
    code_by (List T × ℕ) (coded× (coded_list code) coded_ℕ) (λ q. (q.items, q.spare)) (λ p. record { items = p.0; spare = p.1 }) (λ _. refl)
