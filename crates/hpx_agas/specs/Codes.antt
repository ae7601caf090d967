-- How the parts of a registry are stored.
use Rattle.std.specs.Prelude.{ℕ, Option, List, refl}
use Rattle.std.specs.Coded.{Coded, code_by, coded×, coded_ℕ, coded_option, coded_list}
use Rattle.hpx_value.specs.Ids.{Id}
use Rattle.hpx_value.specs.declared.profile.Profile.{Profile}
use Rattle.hpx_agas.specs.declared.record.Record.{Record}
use Rattle.hpx_agas.specs.declared.line.Line.{Line}

abbrev pub id_code : Coded Id
id_code =
    code_by
    (ℕ × (ℕ × (ℕ × Option ℕ)))
    (coded× coded_ℕ (coded× coded_ℕ (coded× coded_ℕ (coded_option coded_ℕ))))
    (λ i. (i.home, (i.kind, (i.number, i.log))))
    (λ p. record { home = p.0; kind = p.1.0; number = p.1.1.0; log = p.1.1.1 })
    (λ _. refl)

abbrev pub record_code : Coded Record
record_code =
    code_by
    (Id × (ℕ × (ℕ × Option ℕ)))
    (coded× id_code (coded× coded_ℕ (coded× coded_ℕ (coded_option coded_ℕ))))
    (λ r. (r.gid, (r.count, (r.place, r.moving))))
    (λ p. record { gid = p.0; count = p.1.0; place = p.1.1.0; moving = p.1.1.1 })
    (λ _. refl)

abbrev pub profile_code : Coded Profile
profile_code =
    code_by
    (ℕ × (ℕ × ℕ))
    (coded× coded_ℕ (coded× coded_ℕ coded_ℕ))
    (λ p. (p.credit_log, (p.credit_limit, p.cache)))
    (λ p. record { credit_log = p.0; credit_limit = p.1.0; cache = p.1.1 })
    (λ _. refl)

abbrev pub line_code : {Q : Type 0} → Coded Q → Coded (Line Q)
line_code {Q} code =
    code_by
    (ℕ × (Option Record × List Q))
    (coded× coded_ℕ (coded× (coded_option record_code) (coded_list code)))
    (λ l. (l.number, (l.live, l.queue)))
    (λ p. record { number = p.0; live = p.1.0; queue = p.1.1 })
    (λ _. refl)
