mod Seen
