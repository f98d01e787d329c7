use Rattle.std.proofs.Common.{length, sym, ap, ◌∙◌}
use Rattle.circus_ring.proofs.Booting.{length_boot}
use Rattle.circus_ring.proofs.ring.Ring.new.Goals as goal

pub invariant_of-result : goal.invariant_of-result
invariant_of-result c =
    ap length c.in_ok-boot_views.ensures ∙ length_boot c.as_slice.result.now ∙ ap length (c.as_slice.ensures ∙ sym c.in_ok-copy.ensures)
