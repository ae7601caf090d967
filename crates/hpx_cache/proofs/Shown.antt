-- What is done to the entries of the map, seen with ids for keys.
use Rattle.std.proofs.Common.{ℕ, Bool, true, false, ◌≡◌, ◌-◌, ◌&&◌, List, [], ◌∷◌, map, Option, Some, None, IfSome, IfNone, take, refl, sym, ap, ◌∙◌, inl, inr}
use Rattle.std.specs.Prelude.{is_some, ◌==◌, if◌then◌else◌}
use Rattle.std.specs.Option.{option_map, option_map_or}
use Rattle.std.specs.List.{IsDistinct, AllByRecursion}
use Rattle.std.specs.Map.{lookup, lookup_entry, remove_entry, keys_of}
use Rattle.std.proofs.lemmas.List.{take-map}
use Rattle.std.proofs.lemmas.Bool.{cases_Bool, eqb-true, and_parts}
use Rattle.hpx_value.specs.Ids.{Id, bare, same_object}
use Rattle.hpx_cache.specs.declared.cache.Object.{Object}
use Rattle.hpx_cache.specs.Keys.{id_of, shown}
use Rattle.hpx_cache.specs.Places.{Places, learned}
use Rattle.lru.specs.LruCache.{lru_cache, promoted, put_entries}
use Rattle.lru.proofs.Pairs.{lookup-lookup_entry}
use Rattle.lru.proofs.CallerLemmas.{Contains-lookup_entry}

-- keys of one id are one id
same_id : (a b : Object) → same_object (id_of a) (id_of b) ≡ true → id_of b ≡ id_of a
same_id a b h =
    let outer = and_parts (a.home == b.home) ((a.kind == b.kind) && (a.number == b.number)) h in
    let inner = and_parts (a.kind == b.kind) (a.number == b.number) outer.1 in
    rw (eqb-true a.home b.home outer.0, eqb-true a.kind b.kind inner.0, eqb-true a.number b.number inner.1) refl

-- what the map shows
abbrev pub places : List (Object × ℕ) → ℕ → Places
places es cap = record { entries = map shown es; size = cap }

-- the test of the map's keys
abbrev pub eq : Object → Object → Bool
eq a b = (a.home == b.home) && ((a.kind == b.kind) && (a.number == b.number))

module _ (k : Object) (g : Id) (named : id_of k ≡ bare g) where
  test_is : (b : Object) → eq k b ≡ same_object g (id_of b)
  test_is b = ap (λ x. same_object x (id_of b)) named

  hit_is : (b : Object) → eq k b ≡ true → id_of b ≡ bare g
  hit_is b h = same_id k b h ∙ named

  pub lookup-shown : (es : List (Object × ℕ)) → lookup (same_object g) (map shown es) ≡ lookup (eq k) es
  lookup-shown [] = refl
  lookup-shown (e ∷ es) = rw (test_is e.0, lookup-shown es) refl

  pub remove-shown : (es : List (Object × ℕ)) → remove_entry (same_object g) (map shown es) ≡ map shown (remove_entry (eq k) es)
  remove-shown [] = refl
  remove-shown (e ∷ es) = elim (cases_Bool (eq k e.0)) [
    | inl t ↦ let s : same_object g (id_of e.0) ≡ true = sym (test_is e.0) ∙ t in rw (s, t) refl
    | inr t ↦ let s : same_object g (id_of e.0) ≡ false = sym (test_is e.0) ∙ t in rw (s, t, remove-shown es) refl
  ]

  -- the entry of a key, seen with its id
  entry_shown : (es : List (Object × ℕ)) (e : Object × ℕ) → lookup_entry (eq k) es ≡ Some e → id_of e.0 ≡ bare g
  entry_shown es e h = hit_is e.0 (Contains-lookup_entry (eq k) es e h).1

  some_promoted : (es : List (Object × ℕ)) (found : Option (Object × ℕ)) → lookup_entry (eq k) es ≡ found
      → IfSome (option_map (λ e. e.1) found) (λ place. map shown (option_map_or (λ e. e ∷ remove_entry (eq k) es) found es) ≡ (bare g, place) ∷ remove_entry (same_object g) (map shown es))
  some_promoted es None h = tt
  some_promoted es (Some e) h = rw (entry_shown es e h, remove-shown es) refl

  pub look_some : (es : List (Object × ℕ)) → IfSome (lookup (eq k) es) (λ place. map shown (promoted (eq k) es) ≡ (bare g, place) ∷ remove_entry (same_object g) (map shown es))
  look_some es = rw (← lookup-lookup_entry (eq k) es) (some_promoted es (lookup_entry (eq k) es) refl)

  none_promoted : (es : List (Object × ℕ)) (found : Option (Object × ℕ)) → option_map (λ e. e.1) found ≡ None → option_map_or (λ e. e ∷ remove_entry (eq k) es) found es ≡ es
  none_promoted es None h = refl
  none_promoted es (Some e) h = cc

  at_none : (es : List (Object × ℕ)) (cap : ℕ) (found : Option ℕ) → lookup (eq k) es ≡ found
      → IfNone found (places (promoted (eq k) es) cap ≡ places es cap)
  at_none es cap None h = ap (λ entries. places entries cap) (none_promoted es (lookup_entry (eq k) es) (lookup-lookup_entry (eq k) es ∙ h))
  at_none es cap (Some place) h = tt

  pub look_none : (es : List (Object × ℕ)) (cap : ℕ) → IfNone (lookup (eq k) es) (places (promoted (eq k) es) cap ≡ places es cap)
  look_none es cap = at_none es cap (lookup (eq k) es) refl

  put_found : (es : List (Object × ℕ)) (cap place : ℕ) (found : Option (Object × ℕ)) → lookup_entry (eq k) es ≡ found
      → map shown (option_map_or (λ e. (e.0, place) ∷ remove_entry (eq k) es) found ((k, place) ∷ take (cap - 1) es))
      ≡ (bare g, place) ∷ (if is_some (option_map (λ e. e.1) found) then remove_entry (same_object g) (map shown es) else take (cap - 1) (map shown es))
  put_found es cap place None h = rw (named, take-map shown (cap - 1) es) refl
  put_found es cap place (Some e) h = rw (entry_shown es e h, remove-shown es) refl

  pub put-shown : (es : List (Object × ℕ)) (cap place : ℕ)
      → map shown (put_entries eq (lru_cache es cap) k place) ≡ learned (places es cap) g place
  put-shown es cap place = rw (lookup-shown es, ← lookup-lookup_entry (eq k) es) (put_found es cap place (lookup_entry (eq k) es) refl)

head_apart : (k : Object) (es : List (Object × ℕ)) → AllByRecursion (λ y. eq k y ≡ false) (keys_of es) → AllByRecursion (λ y. same_object (id_of k) y ≡ false) (keys_of (map shown es))
head_apart k [] h = h
head_apart k (e ∷ es) h = (h.0, head_apart k es h.1)

pub distinct-shown : (es : List (Object × ℕ)) → IsDistinct eq (keys_of es) → IsDistinct same_object (keys_of (map shown es))
unfolding IsDistinct
distinct-shown [] h = h
distinct-shown (e ∷ es) h = (head_apart e.0 es h.0, distinct-shown es h.1)
