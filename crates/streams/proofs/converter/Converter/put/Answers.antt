use Rattle.std.proofs.Common.{refl}
use Rattle.streams.proofs.converter.Converter.put.Goals as goal

pub returns-in-Ok-write_all : goal.returns-in-Ok-write_all
returns-in-Ok-write_all g c =
    rw (← c.self.view_is) (record {
      put = (
        record { bytes = c.in-Ok.bytes.items; state = c.in-Ok.out },
        rw c.encode_mode.ensures at c.in-Ok.ensures,
        refl,
        rw c.deref.ensures.value at c.in-Ok-write_all.ensures.ok,
      );
    })

pub returns-in-Ok : goal.returns-in-Ok
returns-in-Ok g c =
    rw (← c.self.view_is) (record {
      put = (
        record { bytes = c.in-Ok.bytes.items; state = c.in-Ok.out },
        rw c.encode_mode.ensures at c.in-Ok.ensures,
        refl,
        rw c.deref.ensures.value at c.in-Err-write_all.ensures.err,
      );
    })
