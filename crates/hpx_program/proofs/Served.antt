-- What a run says of its setup, where there is a world.
use Rattle.std.specs.Prelude.{ℕ, List, Option, Result, Some, None, Ok, Err, IfSome, ◌≡◌, ◌≢◌}
use Rattle.std.proofs.Common.{refl, sym, ap, ◌∙◌, subst}
use Rattle.hpx_world.specs.Places.{Places}
use Rattle.hpx_top.specs.declared.task.Notice.{Notice}
use Rattle.hpx_top.specs.declared.task.Request.{Request}
use Rattle.hpx_top.specs.declared.task.Request.TheVariants.{Print, Run}
use Rattle.hpx_top.specs.declared.task.Setup.{Setup}
use Rattle.hpx_top.specs.Runs.{Ports, HasRun}
use Rattle.hpx_top.specs.Usage.{bad_word, notice_in, place_of, printed_of, request_in}
use Rattle.hpx_program.specs.Program.{HasRunAsAsked}
use Rattle.hpx_process.proofs.Words.{no_membership}
use Rattle.hpx_process.specs.Memberships.{membership_in}
use Rattle.hpx_process.specs.declared.membership.Membership.{Membership}
use Rattle.hpx_top.proofs.DoneLemmas.{says_nothing}
use Rattle.hpx_top.specs.Runs.{Says}
use Rattle.hpx_top.specs.Statuses.{status_line}

-- the words that were read are those that are told
pub told_words : (words told : List (List ℕ)) (o : Option (List (List ℕ))) → IfSome o (λ ws. words ≡ ws) → o ≡ Some told → words ≡ told
told_words words told o same e = subst (λ p. IfSome p (λ vs. words ≡ vs)) e same

-- what holds of a run, holds of its world: a setup was asked for
pub run_in : (world : Option Places) (words : List (List ℕ)) (told : Option (List (List ℕ))) (status : ℕ) (cuts : List ℕ) (x z : Ports) → IfSome told (λ ws. words ≡ ws)
    → ((place : ℕ) → bad_word words ≡ Some place → world ≡ None) → ((notice : Notice) → notice_in words ≡ Some notice → world ≡ None)
    → ((setup : Setup) → request_in words ≡ Ok (Run setup) → HasRun setup status cuts world x z) → IfSome world (λ w. HasRunAsAsked told status cuts w x z)
run_in None words told status cuts x z same refused printed did = tt
run_in (Some w) words told status cuts x z same refused printed did = by_request (request_in words) refl
  where
    by_request : (asked : Result Request ℕ) → request_in words ≡ asked → HasRunAsAsked told status cuts w x z
    by_request (Ok (Run setup)) is = record {
      setup = setup;
      asked = λ ws e. ap request_in (sym (told_words words ws told same e)) ∙ is;
      did = did setup is;
    }
    by_request (Ok (Print notice)) is = absurd (let none : Some w ≡ None = printed notice (ap printed_of is) in cc)
    by_request (Err place) is = absurd (let none : Some w ≡ None = refused place (ap place_of is) in cc)

-- a status other than 1 comes of words that are not refused
pub said : (S : Type 0) (words : List (List ℕ)) (status : ℕ) → ((place : ℕ) → bad_word words ≡ Some place → status ≡ 1) → (bad_word words ≡ None → S)
    → status ≢ 1 → S
said S words status refused taken other = by_word (bad_word words) refl
  where
    by_word : (o : Option ℕ) → bad_word words ≡ o → S
    by_word None good = taken good
    by_word (Some place) bad = absurd (other (refused place bad))

-- what was said of a status is the line for it
pub says_so : {E : Type 0} (held : E → Option (List ℕ)) (faults : E → ℕ) (line other : List ℕ) (x y z : E) → line ≡ other → y ≡ z
    → Says line (record { text = held x; faults = faults x }) (record { text = held z; faults = faults z })
    → Says other (record { text = held x; faults = faults x }) (record { text = held y; faults = faults y })
says_so held faults line other x y z is same h =
    subst (λ e. Says other (record { text = held x; faults = faults x }) (record { text = held e; faults = faults e })) (sym same)
    (subst (λ l. Says l (record { text = held x; faults = faults x }) (record { text = held z; faults = faults z })) is h)

-- nothing is said of status 0
pub says_none : {E : Type 0} (held : E → Option (List ℕ)) (faults : E → ℕ) (status : ℕ) (x y : E) → status ≡ 0 → y ≡ x
    → Says (status_line status) (record { text = held x; faults = faults x }) (record { text = held y; faults = faults y })
says_none held faults status x y is same =
    subst (λ e. Says (status_line status) (record { text = held x; faults = faults x }) (record { text = held e; faults = faults e })) (sym same)
    (subst (λ n. Says (status_line n) (record { text = held x; faults = faults x }) (record { text = held x; faults = faults x })) (sym is)
    (says_nothing (record { text = held x; faults = faults x })))

-- words that are printed for make no member
pub member_told : (words told : List (List ℕ)) (membership : Membership) (notice : Notice) → words ≡ told → Some membership ≡ membership_in words → notice_in told ≡ Some notice → ⊥
member_told words told membership notice same is asked = let no : Some membership ≡ None = is ∙ (ap membership_in same ∙ no_membership told notice asked) in cc
