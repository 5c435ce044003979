use Rattle.stride_overlap.proofs.meeting.+least_meeting.Given as goal

abbrev pub decreases-least_meeting : goal.decreases-least_meeting
decreases-least_meeting l = l.stride
