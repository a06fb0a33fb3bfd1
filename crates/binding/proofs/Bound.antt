-- How many fields the constructor at a cell's noted place has at most, the cell bound to it, and what its words are then.
-- Rests on specs/Underway, lookups' Fields, machine's Cells and values' Notes.
use Prim.Native.Nat.{ℕ, suc, ◌+◌, ◌*◌, ◌-◌, ◌≤◌, ◌<◌}
use mathlib.Core.Path.{◌≡◌, refl, sym, ◌∙◌, ap}
use mathlib.Core.List.{List}
use mathlib.Core.Option.{some, some-injective}
use native.Mathlib.Omega.{arith}
use lib.ListN.{length, get_or}
use Rattle.reach.specs.Places.{bytes_at}
use Rattle.reach.proofs.Places.{bytes_length}
use Rattle.lookups.specs.Fields.{fields_in, FieldCount}
use Rattle.lookups.specs.declared.FieldTypes.{FieldTypes}
use Rattle.machine.specs.Cells.{cell_word, Binds}
use Rattle.values.specs.Notes.{noted_place, Noted}
use Rattle.binding.specs.Underway.{noted_number, Bindable, BoundAs, BoundCell}

-- the constructor at the noted place has no more than 6 fields
pub fields_few :
    {file types input w : List ℕ} {cells x place c t : ℕ} → Bindable file types input w cells x → place ≡ noted_place w x → c ≡ get_or input place 0
    → t ≡ cell_word w x 2 → (fields : FieldTypes) → some (bytes_at file fields.at fields.count) ≡ fields_in file types t c → fields.count ≤ 6
fields_few {file} bindable place_is c-is t-is fields looked =
    let these = rw (c-is, t-is, place_is) at looked in
    omega (arith, bindable.few (bytes_at file fields.at fields.count) (sym these), bytes_length file fields.at fields.count)

-- a cell that was bound to it, and the notes of its fields' values: the cell is bound as it is to be
pub bound_known :
    {file types input w v w' : List ℕ} {cells x place c t : ℕ} → place ≡ noted_place w x → c ≡ get_or input place 0 → t ≡ cell_word w x 2
    → (fields : FieldTypes) → some (bytes_at file fields.at fields.count) ≡ fields_in file types t c
    → Binds w v x c cells fields.count (bytes_at file fields.at fields.count) (cell_word w x 3 - 1)
    → Noted file types input v w' cells (bytes_at file fields.at fields.count) (place + 1) → BoundAs file types input w w' cells x (cells + fields.count)
bound_known {input = input} {w = w} {v = v} {x = x} {c = c} place_is c-is t-is fields looked binds noted us known =
    let number : c ≡ noted_number input w x = c-is ∙ ap (λ i. get_or input i 0) place_is in
    let these = rw (c-is, t-is, place_is) at looked in (
      fields.at,
      fields.count,
      some-injective _ _ (sym known ∙ sym these),
      refl,
      record { between = v; binds = rw number at binds; noted = rw place_is at noted },
    )

-- The words of a cell that was bound to the constructor at its noted place, whose fields have these types.
module _
    {file types input w w' : List ℕ} {cells x more : ℕ} (bindable : Bindable file types input w cells x) (us : List ℕ)
    (known : fields_in file types (cell_word w x 2) (noted_number input w x) ≡ some us) (bound : BoundAs file types input w w' cells x more)
  where
    the_bound : (fields k : ℕ) × (us ≡ bytes_at file fields k) × (more ≡ cells + k) × BoundCell file types input w w' cells x fields k
    the_bound = bound us known

    -- noting where the fields' values stand changes no word of it
    same_word : (k : ℕ) → k < 5 → cell_word w' x k ≡ cell_word the_bound.4.between x k
    same_word k few = the_bound.4.noted.elsewhere (5 * x + k) (λ m l. (omega (arith, bindable.in_use), omega (arith, bindable.in_use)))

    pub head_now : cell_word w' x 0 ≡ suc (noted_number input w x)
    head_now = same_word 0 (omega arith) ∙ the_bound.4.binds.new_head

    pub first_now : cell_word w' x 1 ≡ cells
    first_now = same_word 1 (omega arith) ∙ the_bound.4.binds.first_field

    type_now : cell_word w' x 2 ≡ cell_word w x 2
    type_now = same_word 2 (omega arith) ∙ the_bound.4.binds.elsewhere (5 * x + 2) (omega arith) (omega arith) (λ h. omega (arith, bindable.in_use))

    many : length us ≡ the_bound.1
    many = ap length the_bound.2 ∙ bytes_length file the_bound.0 the_bound.1

    pub no_fewer : cells ≤ more
    no_fewer = omega (arith, the_bound.3)

    -- the new cells are as many as the constructor has fields
    pub fields_now : FieldCount file types (cell_word w' x 2) (noted_number input w x) (more - cells)
    fields_now = (
      λ vs also.
          let same = some-injective _ _ (sym known ∙ ap (λ t. fields_in file types t (noted_number input w x)) (sym type_now) ∙ also) in
          omega (arith, the_bound.3, many, ap length same),
      omega (arith, the_bound.3, many, bindable.few us known),
    )
