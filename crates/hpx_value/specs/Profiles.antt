-- Profiles.
use Rattle.std.specs.Prelude.{◌^◌, ◌≤◌}
use Rattle.hpx_value.specs.declared.profile.Profile.{Profile}

-- each setting is in its range
pub record IsValid (p : Profile) : Type 0 where
  pub log_least : 8 ≤ p.credit_log
  pub log_most : p.credit_log ≤ 31
  pub limit_least : 2 ^ p.credit_log ≤ p.credit_limit
  pub limit_most : p.credit_limit ≤ 2 ^ 100
  pub cache_least : 1 ≤ p.cache
  pub cache_most : p.cache ≤ 4096
