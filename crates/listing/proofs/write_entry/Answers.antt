-- `listing::write_entry` meets its contract: where the entry fits, the header and the row behind it are the entry. Rests on Entry and headers' Bytes.
use Prim.Native.Nat.{◌+◌}
use mathlib.Core.Path.{◌≡◌, refl}
use native.Mathlib.Omega.{arith}
use Rattle.headers.proofs.Bytes.{header_length, writes_length, kept_all, writes_kept, kept_then}
use Rattle.reach.proofs.Base.{clash}
use Rattle.listing.proofs.Entry.{entry_fits, entry_written}
use Rattle.listing.proofs.write_entry.Goals as goal

pub returns-then-writer-cells : goal.returns-then-writer-cells
returns-then-writer-cells c = record { wrote = λ ts ss e input. (omega (arith, c.if-writer-cells.true), refl); kept = kept_all _; stays = λ is. refl }

pub write_row-requires : goal.write_row-requires
write_row-requires c =
    let old = c.args.writer.now in
    let behind : c.header.new.self.at ≡ old.at + 6 = omega (arith, c.header.ensures.place, header_length c.args.kind c.args.steps c.args.cells) in
    rw behind
    (entry_fits c.args.rules.now.file.now c.args.rules.now.types.now c.args.rules.now.bytes c.args.work.now c.args.cells c.requires.0.1 old.at
    c.requires.0
    (omega (arith, c.if-writer-cells.false, writes_length c.header.ensures)))

pub returns : goal.returns
returns c =
    let old = c.args.writer.now in
    let behind : c.header.new.self.at ≡ old.at + 6 = omega (arith, c.header.ensures.place, header_length c.args.kind c.args.steps c.args.cells) in
    record {
      wrote = entry_written c.args.rules.now.file.now c.args.rules.now.types.now c.args.rules.now.bytes
          c.args.work.now c.args.cells c.requires.0.1 c.args.kind c.args.steps old.at old.list.now
          (omega (arith, c.if-writer-cells.false))
          c.header.ensures.bytes
          (rw behind at c.write_row.ensures.wrote);
      kept = kept_then (writes_kept c.header.ensures) c.write_row.ensures.kept;
      stays = λ is. absurd (clash (let z = is in cc));
    }
