-- The row of a look into the cache.
use Rattle.std.proofs.Common.{Bool, true, ◌≡◌, ◌≢◌, [], Some, None, IfSome, refl, sym, ◌∙◌, subst}
use Rattle.std.specs.List.{find}
use Rattle.hpx_value.specs.Ids.{Id, same_object}
use Rattle.hpx_journal.specs.Data.{Act}
use Rattle.hpx_journal.specs.Entries.{Rules, name_of, target_of}
use Rattle.hpx_journal.specs.Local.{after, is_act}
use Rattle.hpx_journal.specs.Rows.{SentTo}
use Rattle.hpx_part.specs.Data.{Looked, Sent}
use Rattle.hpx_part.specs.View.{View}
use Rattle.hpx_part.specs.Shows.{Follows}
use Rattle.hpx_part.proofs.Stay.{acts_stay, objects_stay, credit_stays, counts_stay}

pub follows_looked : (r : Rules) (v : View) (o : Id) (hit : Bool) (act : Act) → v.fresh ≡ [] → o.log ≡ None → o.home ≢ v.here
    → v.last ≡ Some (Sent (name_of act)) → find (is_act (name_of act)) v.waiting ≡ Some act → same_object o (target_of act) ≡ true
    → Follows r v (Looked o hit) (record v { last = Some (Looked o hit) })
unfolding after
follows_looked r v o hit act fresh bare away last waits same = record {
  step = λ s once shown native. (
    record {
      here = refl;
      turn = shown.objects.fresh ∙ fresh;
      tokens = tt;
      bare = (bare, tt);
      row = (
        λ h. away (h ∙ shown.acts.here),
        subst (SentTo s o) (sym (subst (λ x. IfSome x (λ y. s.last ≡ Some y)) last shown.last))
            (act, shown.acts.waiting.finds (name_of act) ∙ waits, same),
      );
    },
    record {
      acts = acts_stay v _ s _ refl refl shown.acts;
      objects = objects_stay v _ s _ refl refl refl shown.objects;
      credit = credit_stays v _ s _ refl refl refl refl shown.credit;
      counts = counts_stay v _ s _ refl refl shown.counts;
      last = refl;
    },
  );
  form = record { bare = (bare, tt); birth = tt; to = tt };
  here = refl;
  covered = λ covered x managed. record { named = (covered x managed).named; pending = (covered x managed).pending };
}
