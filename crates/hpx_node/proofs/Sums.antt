-- What tokens weigh: of ids, of lists of what has ids, and of all that a node keeps.
use Rattle.hpx_node.proofs.Common.{Act, Due, Id, List, Standing, Tables, Token, arith, due_ids, flat_map, ids_append, ids_kept, kept_ids, messages, parcel_tokens, sum_by, sum_by-append, tokens, tokens_of, view, ℕ, ◌++◌, ◌+◌, ◌≡◌}

module _ (f : Token → ℕ) where
  -- what the tokens of ids weigh
  abbrev pub weigh : List Id → ℕ
  weigh ids = sum_by f (tokens_of ids)

  pub weigh_append : (xs ys : List Id) → weigh (xs ++ ys) ≡ weigh xs + weigh ys
  weigh_append xs ys = ids_append f xs ys

  pub tokens_sum : (t : Tables) → sum_by f (tokens t)
      ≡ weigh (flat_map (λ (x : Standing). x.state.ids) t.objects) + weigh (flat_map (λ (a : Act). a.ids) t.accepted)
      + weigh (flat_map (λ (a : Act). a.ids) t.running) + weigh (flat_map ids_kept t.pending) + sum_by f (flat_map parcel_tokens (messages t))
  tokens_sum t = omega (
    arith,
    sum_by-append f (tokens_of (kept_ids t)) (flat_map parcel_tokens (messages t)),
    weigh_append (flat_map (λ (x : Standing). x.state.ids) t.objects)
        (flat_map (λ (a : Act). a.ids) t.accepted ++ (flat_map (λ (a : Act). a.ids) t.running ++ flat_map ids_kept t.pending)),
    weigh_append (flat_map (λ (a : Act). a.ids) t.accepted) (flat_map (λ (a : Act). a.ids) t.running ++ flat_map ids_kept t.pending),
    weigh_append (flat_map (λ (a : Act). a.ids) t.running) (flat_map ids_kept t.pending),
  )

  pub view_sum : (t : Tables) (due : List Due) (loose : List Id)
      → sum_by f (view t due loose).tokens ≡ sum_by f (tokens t) + weigh (flat_map due_ids due) + weigh loose
  view_sum t due loose = omega (
    arith,
    sum_by-append f (tokens t) (tokens_of (flat_map due_ids due) ++ tokens_of loose),
    sum_by-append f (tokens_of (flat_map due_ids due)) (tokens_of loose),
  )
