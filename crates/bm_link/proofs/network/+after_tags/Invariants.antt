use Rattle.bm_link.proofs.network.+after_tags.Given as goal

abbrev pub decreases-after_tags : goal.decreases-after_tags
decreases-after_tags l = l.tags
