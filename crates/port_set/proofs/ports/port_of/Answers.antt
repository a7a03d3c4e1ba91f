use Rattle.std.proofs.Common.{arith}
use Rattle.port_set.proofs.Fits.{high_fits, port_exact, port_fits}
use Rattle.port_set.proofs.ports.port_of.Goals as goal

pub overflow_add-high : goal.overflow_add-high
overflow_add-high c =
    rw (c.tail-tail.ensures.value, c.length.ensures.value, c.least_offset_bits.ensures, c.from.ensures)
    (omega (arith, high_fits _ _ _ _ c.length.ensures.fits c.requires.in_range c.requires.owned))

pub overflow_add-result : goal.overflow_add-result
overflow_add-result c =
    rw (c.mask.ensures, c.tail-tail.ensures.value, c.length.ensures.value, c.least_offset_bits.ensures, c.from.ensures)
    (omega (arith, port_fits _ _ _ _ c.length.ensures.fits c.requires.in_range c.requires.owned))

pub overflow_cast-result-2 : goal.overflow_cast-result-2
overflow_cast-result-2 c =
    rw (c.mask.ensures, c.tail-tail.ensures.value, c.length.ensures.value, c.least_offset_bits.ensures, c.from.ensures)
    (omega (arith, port_fits _ _ _ _ c.length.ensures.fits c.requires.in_range c.requires.owned))

pub returns : goal.returns
returns c =
    rw (c.mask.ensures, c.tail-tail.ensures.value, c.length.ensures.value, c.least_offset_bits.ensures, c.from.ensures)
    (port_exact _ _ _ _ c.length.ensures.fits c.requires.in_range c.requires.owned)
