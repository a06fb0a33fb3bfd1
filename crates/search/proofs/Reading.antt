-- The bytes of a list determine its entries: a partial input of the source's types is determined by its prefix form, so that an entry is determined by what is
-- read back of it.
-- Rests on specs/Answering, on lists' ReadBack for the bytes of a list, on readings' Partial (prefix forms differ) and reach's WellTyped (a constructor's
-- number is not 0xFF), and on its Accepted and EntryLength (an entry has the source's types).
use Prim.Native.Nat.{ℕ, zero, suc, ◌≤◌, ◌<◌}
use native.Mathlib.Omega.{arith}
use mathlib.Core.Path.{◌≡◌, refl, sym, ap, ◌∙◌}
use mathlib.Core.Logic.{◌⊎◌, inl, inr, ◌↔◌}
use mathlib.Core.List.{List, [], ◌∷◌, append-nil}
use mathlib.Core.Option.{Option, none, some, none-ne-some}
use lib.ListN.{length, get_elem?}
use Rattle.reach.specs.Base.{◌∈◌}
use Rattle.reach.specs.Limits.{list_limit}
use Rattle.reach.specs.Syntax.{Program, source_types}
use Rattle.reach.specs.Parts.{Parts, prefix}
use Rattle.reach.specs.Types.{Typed, least_depths}
use Rattle.reach.specs.Search.{Entry, entries}
use Rattle.reach.specs.Lists.{entry_bytes, list_bytes, entry_part, Decoded, decoded}
use Rattle.lists.specs.Handed.{in_entries}
use Rattle.reach.specs.Answers.{accepted, check}
use Rattle.reach.proofs.Base.{clash, nth_member}
use Rattle.reach.proofs.Limits.{accepted_keeps}
use Rattle.reach.proofs.Accepted.{entry_typed}
use Rattle.reach.proofs.EntryLength.{entry_within}
use Rattle.reach.proofs.WellTyped.{open_apart}
use Rattle.readings.proofs.Partial.{row_one}
use Rattle.lists.proofs.EntryValues.{entries_lawful}
use Rattle.lists.proofs.ReadBack.{decoded_entry, entry_read_back, beyond_end}
use Rattle.headers.proofs.Bytes.{entry_length}
use Rattle.search.specs.Answering.{ReadsAs}

-- a number that no entry has is beyond the last
missing : (es : List Entry) (k : ℕ) → get_elem? es k ≡ none → length es ≤ k
missing [] k is = omega arith
missing (x ∷ es) zero is = absurd (none-ne-some x (sym is))
missing (x ∷ es) (suc k) is = omega (arith, missing es k is)

-- an entry is its kind, its steps and its input
same_entry : (e f : Entry) → e.kind ≡ f.kind → e.steps ≡ f.steps → e.input ≡ f.input → e ≡ f
same_entry e f k s i =
    let whole : Entry → Entry = λ g. record { kind = g.kind; steps = g.steps; input = g.input } in
    let z : whole e ≡ whole f = rw (k, s, i) in
    z

module _ (file : List ℕ) (p : Program) (h : check file ≡ accepted p) where
  -- partial inputs of the source's types that have one prefix form are one
  pub prefix_unique : (i j : Parts) → Typed p.types (source_types p) i → Typed p.types (source_types p) j → prefix i ≡ prefix j → i ≡ j
  prefix_unique i j a b is =
      row_one p.types (in_entries (least_depths p.types)) (λ e. Unit {0}) (entries_lawful p.types) (open_apart file p h) (source_types p) i j a b tt tt is

  -- its steps fit their two bytes
  entry_steps : (e : Entry) → e ∈ entries p → e.steps < 65536
  entry_steps e m = omega (arith, (entry_within file p h e m).1, (accepted_keeps file p h).steps_limit)

  -- Of a list of such entries: entry k, read back, is the entry of number k, and no other.
  module _ (es : List Entry) (all : (e : Entry) → e ∈ es → e ∈ entries p) (fits : length (list_bytes es) ≤ list_limit) where
    small : (e : Entry) → e ∈ es → length (prefix e.input) < 65536
    small e m = (entry_within file p h e (all e m)).0

    -- the part that it fills is its bytes
    pub part_of : (k : ℕ) (e : Entry) → get_elem? es k ≡ some e → entry_part (list_bytes es) k ≡ entry_bytes e
    part_of k e there = rw (append-nil (list_bytes es)) at (entry_read_back es [] small fits k e there)

    reads : (k : ℕ) (e : Entry) → get_elem? es k ≡ some e → ReadsAs p (list_bytes es) k e
    reads k e there =
        let m = all e (nth_member es k e there) in
        rw (part_of k e there)
        (λ none. clash (omega (arith, ap length none, entry_length e)), decoded_entry e (entry_steps e m), entry_typed file p h e m)

    read : (k : ℕ) (e : Entry) → ReadsAs p (list_bytes es) k e → get_elem? es k ≡ some e
    read k e (there, says, typed) = go (get_elem? es k) refl
      where
        go : (o : Option Entry) → get_elem? es k ≡ o → o ≡ some e
        go none is = absurd (there (beyond_end es small fits k (missing es k is)))
        go (some f) is =
            let m = all f (nth_member es k f is) in
            let both : ◌≡◌ {A = Decoded} _ _ = sym (decoded_entry f (entry_steps f m)) ∙ ap decoded (sym (part_of k f is)) ∙ says in
            let input = prefix_unique f.input e.input (entry_typed file p h f m) typed (ap (λ (d : Decoded). d.parameters) both) in
            ap some (same_entry f e (ap (λ (d : Decoded). d.kind) both) (ap (λ (d : Decoded). d.steps) both) input)

    pub reads_exactly : (k : ℕ) (e : Entry) → ReadsAs p (list_bytes es) k e ↔ (get_elem? es k ≡ some e)
    reads_exactly k e = (read k e, reads k e)

    -- a number reads as an entry, or its part is empty
    pub reads_or_empty : (k : ℕ) → ((e : Entry) × ReadsAs p (list_bytes es) k e) ⊎ (entry_part (list_bytes es) k ≡ [])
    reads_or_empty k = go (get_elem? es k) refl
      where
        go : (o : Option Entry) → get_elem? es k ≡ o → ((e : Entry) × ReadsAs p (list_bytes es) k e) ⊎ (entry_part (list_bytes es) k ≡ [])
        go none is = inr (beyond_end es small fits k (missing es k is))
        go (some e) is = inl (e, reads k e is)
