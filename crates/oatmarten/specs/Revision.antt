-- The revision of the C interface: the header's OAT_REVISION (`tests/exports` compares the two). It grows by one when a struct, a call or a number of the
-- header changes, or what a call answers. Assumes nothing.
use Rattle.std.specs.Prelude.{ℕ}

abbrev pub revision : ℕ
revision = 9
