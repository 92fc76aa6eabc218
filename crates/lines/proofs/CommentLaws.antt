-- The laws that specs/CommentLaws.antt states, each by the module that proves it.
use Rattle.lines.specs.CommentLaws.{LineDecides, BlanksKept, CommentsApart, CommentsNotCounted}
use Rattle.lines.proofs.Physicals.{comment_line}
use Rattle.lines.proofs.Comments.{blanks_kept, comments_apart, comments_not_counted}

pub line_decides : LineDecides
line_decides = comment_line

pub blanks_are_kept : BlanksKept
blanks_are_kept = blanks_kept

pub comments_stand_apart : CommentsApart
comments_stand_apart = comments_apart

pub comments_are_not_counted : CommentsNotCounted
comments_are_not_counted = comments_not_counted
